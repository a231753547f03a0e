use Rattle.std.proofs.Common.{◌≤◌, length}
use Rattle.solver.proofs.Chains.{Walks}
use Rattle.solver.proofs.chain.chain_to.Given as goal

abbrev pub invariant-loop-at : goal.invariant-loop-at
invariant-loop-at l = record {
  inside : l.at ≤ length l.found;
  walks : Walks l.found l.parent l.at l.chain.items l.last;
}

abbrev pub decreases-loop-at : goal.decreases-loop-at
decreases-loop-at l = l.at
