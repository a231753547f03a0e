use Rattle.std.proofs.Common.{map, sym, ◌∙◌, arith}
use Rattle.std.specs.Arc.{arc_slice_items}
use Rattle.labels.specs.Pieces.{piece_bits}
use Rattle.labels.proofs.PieceBits.{length-pieces, pieces-at, rows-same}
use Rattle.labels.proofs.pieces.PieceRow.of.Goals as goal

pub returns : goal.returns
returns c =
    let pieces = map arc_slice_items c.loop-number.pieces.items in
    let n = c.bound-n.result in
    rows-same (piece_bits pieces 0 n) c.args.row.now n (length-pieces pieces 0 n) (sym c.bound-n.ensures)
    (λ i h. pieces-at pieces n i h ∙ c.loop-number.invariant.each i (omega (arith, h, c.loop-number-test.false)))
