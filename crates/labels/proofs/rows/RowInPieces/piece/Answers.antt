use Rattle.labels.proofs.rows.RowInPieces.piece.Goals as goal

pub returns : goal.returns
returns c = c.cut.ensures.bits
