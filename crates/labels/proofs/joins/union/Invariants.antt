use Rattle.std.proofs.Common.{◌+◌, ◌-◌, length}
use Rattle.labels.proofs.Merge.{Merged}
use Rattle.labels.proofs.joins.union.Given as goal

abbrev pub invariant-merge : goal.invariant-merge
invariant-merge l = Merged l.policies.items l.left l.right l.i l.j

abbrev pub decreases-merge : goal.decreases-merge
decreases-merge l = (length l.left - l.i) + (length l.right - l.j)
