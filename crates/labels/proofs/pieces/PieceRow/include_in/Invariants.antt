use Rattle.std.proofs.Common.{◌≡◌, ℕ, ◌<◌, ◌≤◌, ◌*◌, ◌||◌, length}
use Rattle.labels.specs.Row.{has}
use Rattle.labels.proofs.pieces.PieceRow.include_in.Given as goal

abbrev pub invariant-loop-number : goal.invariant-loop-number
invariant-loop-number l = record {
  bound : length l.row ≡ length l.fn.row;
  below : (i : ℕ) → i < 2048 * l.number → has l.row i ≡ (has l.fn.row i || has l.self i);
  above : (i : ℕ) → 2048 * l.number ≤ i → has l.row i ≡ has l.fn.row i;
}
