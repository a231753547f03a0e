use Rattle.std.proofs.Common.{◌-◌, ◌≤◌, length}
use Rattle.labels.proofs.entries.part_with.Given as goal

abbrev pub invariant-loop-part : goal.invariant-loop-part
invariant-loop-part l = l.from ≤ length l.row

abbrev pub decreases-loop-part : goal.decreases-loop-part
decreases-loop-part l = length l.row - l.from
