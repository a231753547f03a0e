use Rattle.std.proofs.Common.{◌≡◌, ℕ, ◌<◌, ◌*◌, map}
use Rattle.std.specs.Arc.{arc_slice_items}
use Rattle.labels.specs.Pieces.{has_piece_bit}
use Rattle.labels.specs.Row.{has}
use Rattle.labels.proofs.pieces.PieceRow.is_row.Given as goal

abbrev pub invariant-loop-number : goal.invariant-loop-number
invariant-loop-number l = (i : ℕ) → i < 2048 * l.number → has_piece_bit (map arc_slice_items l.pieces) i ≡ has l.row i
