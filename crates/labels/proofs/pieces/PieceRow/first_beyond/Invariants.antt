use Rattle.std.proofs.Common.{◌-◌, ◌≤◌}
use Rattle.labels.proofs.PieceBits.{NoneBeyond}
use Rattle.labels.proofs.pieces.PieceRow.first_beyond.Given as goal

abbrev pub invariant-loop-at : goal.invariant-loop-at
invariant-loop-at g l = record {
  from_on : l.from ≤ l.at;
  none : NoneBeyond l.self (g.O.InPieces.numbers l.other) l.from l.at;
}

abbrev pub decreases-loop-at : goal.decreases-loop-at
decreases-loop-at g l = l.bound - l.at
