use Rattle.std.proofs.Common.{◌≡◌, ℕ, length, take}
use Rattle.labels.specs.Row.{has}
use Rattle.solver.specs.Rows.{left_has}
use Rattle.solver.proofs.breaker.left_row.Given as goal

abbrev pub invariant-loop-atom : goal.invariant-loop-atom
invariant-loop-atom l = record {
  count : length l.row ≡ l.count;
  members : (n : ℕ) → has l.row n ≡ left_has l.rows (take l.atom-index l.left) n;
}
