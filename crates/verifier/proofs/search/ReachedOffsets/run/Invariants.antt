use Rattle.std.proofs.Common.{◌≡◌, ◌≤◌, ◌+◌, ◌^◌, [], length}
use Rattle.std.specs.Prelude.{IfNone}
use Rattle.verifier.specs.Search.{IsSearchingNext, IsWaiting, count, left}
use Rattle.verifier.proofs.search.ReachedOffsets.run.Given as goal

abbrev pub invariant-loop-next : goal.invariant-loop-next
invariant-loop-next g l = record {
  next : IsSearchingNext l.body.program.now l.body.procedure.now l.self l.next;
  last : IfNone l.next (l.self.work ≡ []);
  waiting : IsWaiting l.body.procedure.now l.coverage l.self;
  room : length l.self.operands + left l.self + count l.next ≤ 2 ^ 32;
}

abbrev pub decreases-loop-next : goal.decreases-loop-next
decreases-loop-next g l = left l.self + count l.next
