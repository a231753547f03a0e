use Rattle.std.proofs.Common.{ap, map, ◌∙◌, ◌≡◌}
use Rattle.std.specs.Arc.{arc_slice_items}
use Rattle.labels.specs.Pieces.{piece_at, pieces_of}
use Rattle.labels.proofs.PieceBits.{piece-values}
use Rattle.labels.proofs.pieces.PieceRowInPieces.piece.Goals as goal

pub returns : goal.returns
returns c = λ i h.
    let is : c.piece_of.result.now ≡ piece_at (pieces_of c.self.inside) c.args.number =
    c.piece_of.ensures ∙ ap (λ items. piece_at (map arc_slice_items items) c.args.number) c.as_slice.ensures.value in
    piece-values (pieces_of c.self.inside) c.self.inside.n c.args.number i c.piece_of.result.now c.args.self.now c.self.invariant.clear c.self.view_is is h
