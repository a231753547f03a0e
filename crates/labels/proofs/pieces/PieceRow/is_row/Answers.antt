use Rattle.std.proofs.Common.{ap, map, sym, ◌∙◌, length, arith}
use Rattle.std.specs.Arc.{arc_slice_items}
use Rattle.labels.specs.Pieces.{has_piece_bit, pieces_of}
use Rattle.labels.specs.Row.{has}
use Rattle.labels.proofs.PieceBits.{length-pieces, pieces-all, rows-same}
use Rattle.labels.proofs.pieces.PieceRow.is_row.Goals as goal

pub returns : goal.returns
returns c = λ yes.
    let pieces = pieces_of c.self.inside in
    let n = c.self.inside.n in
    rows-same c.args.self.now c.args.row.now n (ap length (sym c.self.view_is) ∙ length-pieces pieces 0 n) (sym c.bound.ensures ∙ sym c.if-self-bound.false) (λ i h.
    ap (λ row. has row i) (sym c.self.view_is) ∙ (pieces-all pieces n c.self.invariant.clear i
    ∙ (sym (ap (λ items. has_piece_bit (map arc_slice_items items) i) c.as_slice-pieces.ensures.value) ∙ c.loop-number.invariant i (omega (arith, h, c.loop-number-test.false)))))
