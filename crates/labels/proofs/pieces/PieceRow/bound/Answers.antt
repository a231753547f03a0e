use Rattle.std.proofs.Common.{ap, sym, length, ◌∙◌}
use Rattle.labels.specs.Pieces.{pieces_of}
use Rattle.labels.proofs.PieceBits.{length-pieces}
use Rattle.labels.proofs.pieces.PieceRow.bound.Goals as goal

pub returns : goal.returns
returns c = sym (length-pieces (pieces_of c.self.inside) 0 c.self.inside.n) ∙ ap length c.self.view_is
