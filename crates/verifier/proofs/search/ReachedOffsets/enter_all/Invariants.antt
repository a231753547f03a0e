use Rattle.verifier.specs.Coverage.{left}
use Rattle.verifier.specs.Search.{IsWaiting, KeepsSearching}
use Rattle.verifier.proofs.search.ReachedOffsets.enter_all.Given as goal

abbrev pub invariant-loop-handler : goal.invariant-loop-handler
invariant-loop-handler l = record {
  steps : KeepsSearching l.body.program.now l.body.procedure.now l.fn.self l.self l.at;
  waiting : IsWaiting l.body.procedure.now l.coverage l.self;
}

abbrev pub decreases-loop-handler : goal.decreases-loop-handler
decreases-loop-handler l = left l.coverage
