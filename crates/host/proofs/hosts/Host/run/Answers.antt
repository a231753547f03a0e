use Rattle.std.proofs.Common.{◌++◌, ◌∷◌, [], length, arith}
use Rattle.std.proofs.lemmas.Iterator.Consumers.{YieldsList-turn}
use Rattle.std.proofs.lemmas.Iterator.Adapters.{YieldsList-from_vec}
use Rattle.std.proofs.lemmas.List.{length_push}
use Rattle.host.specs.Values.{host_of}
use Rattle.host.specs.declared.hosts.TheConstants.{MAX_SESSIONS}
use Rattle.host.proofs.Answered.{so_far}
use Rattle.host.proofs.hosts.Host.run.Goals as goal

pub loop-event-preserved : goal.loop-event-preserved
loop-event-preserved c =
    let events = c.args.events.items in
    let n = length c.loop-event.yielded in
    let event = c.in-Some.event in
    let t = YieldsList-turn (YieldsList-from_vec {s = c.into_iter-event-iterator.result} events (cc) (cc)) c.loop-event.yielded c.loop-event.event-iterator c.loop-event.yielded_by c.next.result c.next.new.self event c.in-Some.is c.next.ensures.steps in
    let more = length_push c.loop-event.yielded event in
    record {
      answered = so_far MAX_SESSIONS (host_of c.args.self.now) (host_of c.loop-event.self) (host_of c.answer-answer.new.self) events c.loop-event.answers.items c.push_reserved.new.self.items n (length (c.loop-event.yielded ++ event ∷ [])) event c.answer-answer.result t.0 t.1 more c.push_reserved.ensures.items c.loop-event.invariant.answered c.answer-answer.ensures;
      as_many = omega (arith, more, c.push_reserved.ensures.len, c.loop-event.invariant.as_many);
      room = omega (arith, c.push_reserved.ensures.capacity, c.loop-event.invariant.room);
    }
