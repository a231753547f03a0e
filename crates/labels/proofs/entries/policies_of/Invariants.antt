use Rattle.std.proofs.Common.{◌-◌, ◌≤◌, length}
use Rattle.labels.specs.Entries.{ArePoliciesGathered}
use Rattle.labels.proofs.entries.policies_of.Given as goal

abbrev pub invariant-loop-part : goal.invariant-loop-part
invariant-loop-part l = record {
  inside : l.from ≤ length l.row;
  gathered : ArePoliciesGathered l.entries l.row l.from l.policies.items;
}

abbrev pub decreases-loop-part : goal.decreases-loop-part
decreases-loop-part l = length l.row - l.from
