use Rattle.std.proofs.Common.{◌≡◌, ◌-◌, ◌≤◌, length}
use Rattle.labels.specs.Comparing.{AreBits, IsRightSide}
use Rattle.labels.proofs.under.Under.cover.Given as goal

abbrev pub invariant-loop-part : goal.invariant-loop-part
invariant-loop-part l = record {
  inside : l.from ≤ length l.row;
  bits : AreBits l.self.hierarchy.now l.self.entries.now l.bits;
  right : IsRightSide l.self.hierarchy.now l.self.entries.now l.right;
  to : l.right.to ≡ l.to;
}

abbrev pub decreases-loop-part : goal.decreases-loop-part
decreases-loop-part l = length l.row - l.from
