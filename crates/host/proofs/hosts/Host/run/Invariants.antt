use Rattle.std.proofs.Common.{◌≡◌, ◌≤◌, length, map, take, vec_len}
use Rattle.std.specs.Vec.{vec_capacity}
use Rattle.host.specs.Meaning.{Answered}
use Rattle.host.specs.Values.{answer_of, event_of, host_of}
use Rattle.host.specs.declared.hosts.TheConstants.{MAX_SESSIONS}
use Rattle.host.proofs.hosts.Host.run.Given as goal

-- the events so far are answered, and there is room for the answers of all
abbrev pub invariant-loop-event : goal.invariant-loop-event
invariant-loop-event l = record {
  answered : Answered MAX_SESSIONS (host_of l.fn.self) (map event_of (take (length l.yielded) l.fn.events.items)) (map answer_of l.answers.items) (host_of l.self);
  as_many : vec_len l.answers ≡ length l.yielded;
  room : length l.fn.events.items ≤ vec_capacity l.answers;
}
