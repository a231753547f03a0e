use Rattle.std.proofs.Common.{◌-◌, ◌<◌, ◌^◌, ◌≤◌}
use Rattle.verifier.proofs.Trees.{IsWidth}
use Rattle.verifier.proofs.ends.MaximumTree.restart.Given as goal

abbrev pub invariant-loop-width : goal.invariant-loop-width
invariant-loop-width l = record {
  power : IsWidth l.width;
  positive : 0 < l.width;
  small : l.width ≤ 2 ^ 33;
}

abbrev pub decreases-loop-width : goal.decreases-loop-width
decreases-loop-width l = l.count - l.width
