use Rattle.std.proofs.Common.{ℕ, ◌<◌, ◌≤◌, ◌-◌, length}
use Rattle.std.specs.Prelude.{IsTrue}
use Rattle.labels.specs.Comparing.{HasParts, IsLeftSide}
use Rattle.labels.specs.Row.{has}
use Rattle.labels.proofs.under.Under.widen.Given as goal

abbrev pub invariant-loop-label : goal.invariant-loop-label
invariant-loop-label l = record {
  inside : l.from ≤ length l.labels;
  left : IsLeftSide l.self.entries.now l.left;
  added : (label : ℕ) → label < l.from → IsTrue (has l.labels label) → HasParts l.self.entries.now label l.left.parts;
}

abbrev pub decreases-loop-label : goal.decreases-loop-label
decreases-loop-label l = length l.labels - l.from
