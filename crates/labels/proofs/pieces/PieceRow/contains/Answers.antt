use Rattle.std.proofs.Common.{ap, map, sym, ◌∙◌, ◌%◌, ◌/◌}
use Rattle.std.specs.Arc.{arc_slice_items}
use Rattle.labels.specs.Pieces.{piece_at, pieces_of}
use Rattle.labels.specs.Row.{has}
use Rattle.labels.specs.Words.{has_bit}
use Rattle.labels.proofs.PieceBits.{pieces-all}
use Rattle.labels.proofs.pieces.PieceRow.contains.Goals as goal

pub returns : goal.returns
returns c =
    let i = c.args.i in
    c.has_any_bit.ensures
    ∙ (ap (λ words. has_bit words (i % 2048)) (c.piece_of.ensures ∙ ap (λ items. piece_at (map arc_slice_items items) (i / 2048)) c.as_slice.ensures.value)
    ∙ (sym (pieces-all (pieces_of c.self.inside) c.self.inside.n c.self.invariant.clear i) ∙ ap (λ row. has row i) c.self.view_is))
