use Rattle.std.proofs.Common.{ap, map, ◌∙◌, ◌≡◌, ◌*◌, ◌+◌, ◌-◌, ◌/◌, ◌%◌, subst, arith, None, Some}
use Rattle.std.specs.Arc.{arc_slice_items}
use Rattle.labels.specs.Pieces.{piece_at, pieces_of}
use Rattle.labels.specs.Row.{FirstBeyond, IsFirstBeyond}
use Rattle.labels.specs.Words.{FirstNew}
use Rattle.labels.proofs.PieceBits.{NoneBeyond, piece-found, piece-none, piece-values, search-ended}
use Rattle.labels.proofs.pieces.PieceRow.first_beyond.Goals as goal

pub returns-in-Some : goal.returns-in-Some
returns-in-Some g c =
    let at = c.loop-at.at in
    let p = at / 2048 in
    let other = g.O.InPieces.numbers c.args.other.now in
    let words = c.piece_of-words.result.now in
    let is : words ≡ piece_at (pieces_of c.self.inside) p = c.piece_of-words.ensures ∙ ap (λ items. piece_at (map arc_slice_items items) p) c.as_slice-pieces.ensures.value in
    let first : 2048 * p ≡ at - at % 2048 = omega arith in
    let new : FirstNew words c.piece.result.now (at % 2048) c.min-count.result (Some c.in-Some.i) =
    subst (FirstNew words c.piece.result.now (at % 2048) c.min-count.result) c.in-Some.is c.first_new.ensures in
    let found : FirstBeyond c.args.self.now other c.args.from (Some (2048 * p + c.in-Some.i)) =
    piece-found c.args.self.now other words c.piece.result.now p c.min-count.result (omega (arith, c.min-count.ensures))
    (λ i h. piece-values (pieces_of c.self.inside) c.self.inside.n p i words c.args.self.now c.self.invariant.clear c.self.view_is is h) c.piece.ensures
    c.bound-bound.result c.args.from at c.in-Some.i (omega arith) c.loop-at.invariant.from_on c.bound-bound.ensures (omega (arith, c.min-count.ensures, first, c.loop-at-test.true)) c.loop-at.invariant.none new in
    subst (λ k. IsFirstBeyond c.args.self.now other c.args.from (k + c.in-Some.i)) first found

pub overflow_add-at : goal.overflow_add-at
overflow_add-at g c = omega (arith, c.min-count.ensures, c.loop-at-test.true, c.bound-bound.type_inv)

pub loop-at-preserved : goal.loop-at-preserved
loop-at-preserved g c =
    let at = c.loop-at.at in
    let p = at / 2048 in
    let other = g.O.InPieces.numbers c.args.other.now in
    let words = c.piece_of-words.result.now in
    let is : words ≡ piece_at (pieces_of c.self.inside) p = c.piece_of-words.ensures ∙ ap (λ items. piece_at (map arc_slice_items items) p) c.as_slice-pieces.ensures.value in
    let first : 2048 * p ≡ at - at % 2048 = omega arith in
    let none : FirstNew words c.piece.result.now (at % 2048) c.min-count.result None =
    subst (FirstNew words c.piece.result.now (at % 2048) c.min-count.result) c.in-None.is c.first_new.ensures in
    let more : NoneBeyond c.args.self.now other c.args.from (2048 * p + c.min-count.result) =
    piece-none c.args.self.now other words c.piece.result.now p c.min-count.result (omega (arith, c.min-count.ensures))
    (λ i h. piece-values (pieces_of c.self.inside) c.self.inside.n p i words c.args.self.now c.self.invariant.clear c.self.view_is is h) c.piece.ensures
    c.args.from at (omega arith) c.loop-at.invariant.none none in
    record {
      from_on = omega (arith, c.loop-at.invariant.from_on, c.min-count.ensures, c.loop-at-test.true);
      none = subst (λ k. NoneBeyond c.args.self.now other c.args.from (k + c.min-count.result)) first more;
    }

pub returns : goal.returns
returns g c =
    search-ended c.args.self.now (g.O.InPieces.numbers c.args.other.now) c.args.from c.loop-at.at c.bound-bound.result c.bound-bound.ensures c.loop-at-test.false c.loop-at.invariant.none
