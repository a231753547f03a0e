use Rattle.std.proofs.Common.{◌≡◌, ℕ, ◌<◌, ◌≤◌, ◌-◌, length, true}
use Rattle.std.specs.Prelude.{IsTrue}
use Rattle.labels.specs.Row.{has}
use Rattle.solver.specs.Broken.{is_below}
use Rattle.solver.proofs.elements.ElementsOfWrittenElements.first_above.Given as goal

abbrev pub invariant-loop-number : goal.invariant-loop-number
invariant-loop-number g l = record {
  inside : l.from ≤ length l.row;
  below : (n : ℕ) → n < l.from → IsTrue (has l.row n) → is_below (g.L.Lattice.order l.self.lattice.now) l.self.written.now n l.to ≡ true;
}

abbrev pub decreases-loop-number : goal.decreases-loop-number
decreases-loop-number g l = length l.row - l.from
