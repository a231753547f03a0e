use Rattle.std.proofs.Common.{ap, map, sym, ◌∙◌, ◌≡◌, ◌≤◌, ◌<◌, ◌*◌, ◌+◌, ◌||◌, false, length, arith, ℕ, ⊎_elim}
use Rattle.std.specs.Arc.{arc_slice_items}
use Rattle.std.proofs.lemmas.Bool.{cases_lt}
use Rattle.std.proofs.lemmas.List.{length-map}
use Rattle.labels.specs.Pieces.{piece_at, pieces_of}
use Rattle.labels.specs.Row.{has}
use Rattle.labels.specs.Words.{has_bit}
use Rattle.labels.proofs.PieceBits.{clear-piece, included-above, included-below, length-pieces, or-none, piece-past, piece-values, pieces-all}
use Rattle.labels.proofs.pieces.PieceRow.include_in.Goals as goal

pub overflow_mul-number : goal.overflow_mul-number
overflow_mul-number c =
    let n_is = c.self.invariant.fits c.loop-number.number (omega (arith, c.loop-number-test.true, ap length c.as_slice-pieces.ensures.value)) in
    let count : length c.args.self.now ≡ c.self.inside.n = ap length (sym c.self.view_is) ∙ length-pieces (pieces_of c.self.inside) 0 c.self.inside.n in
    omega (arith, n_is, count, c.requires, c.bound-bound.ensures, c.bound-bound.type_inv)

pub include_words-requires-clause-fits : goal.include_words-requires-clause-fits
include_words-requires-clause-fits c =
    let number = c.loop-number.number in
    let is : c.piece_of.result.now ≡ piece_at (pieces_of c.self.inside) number = c.piece_of.ensures ∙ ap (λ items. piece_at (map arc_slice_items items) number) c.as_slice-pieces.ensures.value in
    let fits = c.self.invariant.fits number (omega (arith, c.loop-number-test.true, ap length c.as_slice-pieces.ensures.value)) in
    let count : length c.args.self.now ≡ c.self.inside.n = ap length (sym c.self.view_is) ∙ length-pieces (pieces_of c.self.inside) 0 c.self.inside.n in
    omega (arith, fits, ap length is, count, c.requires, c.loop-number.invariant.bound)

pub include_words-requires-clause-clear : goal.include_words-requires-clause-clear
include_words-requires-clause-clear c = λ i past.
    let number = c.loop-number.number in
    let is : c.piece_of.result.now ≡ piece_at (pieces_of c.self.inside) number = c.piece_of.ensures ∙ ap (λ items. piece_at (map arc_slice_items items) number) c.as_slice-pieces.ensures.value in
    let count : length c.args.self.now ≡ c.self.inside.n = ap length (sym c.self.view_is) ∙ length-pieces (pieces_of c.self.inside) 0 c.self.inside.n in
    ap (λ xs. has_bit xs i) is
    ∙ clear-piece (pieces_of c.self.inside) c.self.inside.n number i c.self.invariant.clear (c.self.invariant.short number) (omega (arith, past, count, c.requires, c.loop-number.invariant.bound))

pub loop-number-preserved : goal.loop-number-preserved
loop-number-preserved c =
    let number = c.loop-number.number in
    let piece = c.piece_of.result.now in
    let is : piece ≡ piece_at (pieces_of c.self.inside) number = c.piece_of.ensures ∙ ap (λ items. piece_at (map arc_slice_items items) number) c.as_slice-pieces.ensures.value in
    let short : length piece ≤ 32 = omega (arith, ap length is, c.self.invariant.short number) in
    let mine : (i : ℕ) → i < 2048 → has_bit piece i ≡ has c.args.self.now (2048 * number + i) =
    λ i h. piece-values (pieces_of c.self.inside) c.self.inside.n number i piece c.args.self.now c.self.invariant.clear c.self.view_is is h in
    record {
      bound = c.include_words.ensures.bound ∙ c.loop-number.invariant.bound;
      below = included-below c.args.row.now c.loop-number.row c.include_words.new.self c.args.self.now piece number short c.loop-number.invariant.below c.loop-number.invariant.above
          c.include_words.ensures.before c.include_words.ensures.from mine;
      above = included-above c.args.row.now c.loop-number.row c.include_words.new.self c.args.self.now piece number short c.loop-number.invariant.below c.loop-number.invariant.above
          c.include_words.ensures.before c.include_words.ensures.from mine;
    }

pub returns-clause-members : goal.returns-clause-members
returns-clause-members c = λ i.
    let pieces = pieces_of c.self.inside in
    let enough : length pieces ≤ c.loop-number.number = omega (arith, c.loop-number-test.false, ap length c.as_slice-pieces.ensures.value, length-map c.self.inside.pieces.items arc_slice_items) in
    ⊎_elim
    (c.loop-number.invariant.below i)
    (λ (past : 2048 * c.loop-number.number ≤ i).
    let none : has c.args.self.now i ≡ false =
    ap (λ row. has row i) (sym c.self.view_is) ∙ (pieces-all pieces c.self.inside.n c.self.invariant.clear i ∙ piece-past pieces i (omega (arith, past, enough))) in
    c.loop-number.invariant.above i past ∙ sym (ap (λ b. has c.args.row.now i || b) none ∙ or-none (has c.args.row.now i)))
    (cases_lt i (2048 * c.loop-number.number))
