use Rattle.std.proofs.Common.{◌+◌, ◌-◌, length}
use Rattle.handlers.proofs.Merging.{Merged}
use Rattle.handlers.proofs.entries.merge.Given as goal

abbrev pub invariant-merge : goal.invariant-merge
invariant-merge l = Merged l.first l.second l.entries.items l.i l.j l.first_target l.second_target

abbrev pub decreases-merge : goal.decreases-merge
decreases-merge l = (length l.first - l.i) + (length l.second - l.j)
