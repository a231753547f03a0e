use Rattle.std.proofs.Common.{◌≡◌, ℕ, ◌<◌, ◌≤◌, ◌-◌, length}
use Rattle.std.specs.Prelude.{IsTrue}
use Rattle.labels.specs.Comparing.{IsLeftSide}
use Rattle.labels.specs.Row.{Includes, has}
use Rattle.labels.proofs.under.Under.add_label.Given as goal

abbrev pub invariant-loop-part : goal.invariant-loop-part
invariant-loop-part l = record {
  inside : l.from ≤ length l.row;
  left : IsLeftSide l.self.entries.now l.left;
  labels : l.left.labels ≡ l.fn.left.labels;
  kept : Includes l.left.parts l.fn.left.parts;
  itself : IsTrue (has l.left.parts l.label);
  added : (part : ℕ) → part < l.from → IsTrue (has l.row part) → IsTrue (has l.left.parts part);
}

abbrev pub decreases-loop-part : goal.decreases-loop-part
decreases-loop-part l = length l.row - l.from
