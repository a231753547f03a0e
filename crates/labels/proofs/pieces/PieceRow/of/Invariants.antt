use Rattle.std.proofs.Common.{◌≡◌, ℕ, ◌<◌, ◌≤◌, ◌+◌, ◌*◌, ◌/◌, length, map}
use Rattle.std.specs.Arc.{arc_slice_items}
use Rattle.labels.specs.Pieces.{has_piece_bit, piece_at}
use Rattle.labels.specs.Row.{has}
use Rattle.labels.proofs.pieces.PieceRow.of.Given as goal

abbrev pub invariant-loop-number : goal.invariant-loop-number
invariant-loop-number l = record {
  count : length l.pieces.items ≡ l.number;
  each : (i : ℕ) → i < 2048 * l.number → has_piece_bit (map arc_slice_items l.pieces.items) i ≡ has l.row i;
  short : (p : ℕ) → p < l.number → length (piece_at (map arc_slice_items l.pieces.items) p) ≤ 32;
  fits : (p : ℕ) → p < l.number → 32 * p + length (piece_at (map arc_slice_items l.pieces.items) p) ≤ length l.row / 64 + 1;
}
