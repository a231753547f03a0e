use Rattle.std.proofs.Common.{arith, ap, sym, subst, ◌∙◌, ◌≡◌, ◌*◌, ◌+◌, ◌/◌, length}
use Rattle.labels.specs.Row.{has}
use Rattle.labels.specs.Words.{IsWordPiece}
use Rattle.labels.proofs.PieceBits.{cut-bits}
use Rattle.labels.proofs.RowBits.{bits-all, length-bits}
use Rattle.labels.proofs.rows.Row.cut.Goals as goal

pub returns-clause-bits : goal.returns-clause-bits
returns-clause-bits c = λ i h.
    let words = c.self.inside.words.items in
    let n = c.self.inside.n in
    let is : IsWordPiece words c.args.number c.cut.result.now = subst (λ xs. IsWordPiece xs c.args.number c.cut.result.now) c.as_slice.ensures c.cut.ensures in
    cut-bits words c.cut.result.now c.args.number is i h
    ∙ (sym (bits-all words n c.self.invariant.clear (2048 * c.args.number + i)) ∙ ap (λ row. has row (2048 * c.args.number + i)) c.self.view_is)

pub returns-clause-short : goal.returns-clause-short
returns-clause-short c = c.cut.ensures.short

pub returns-clause-fits : goal.returns-clause-fits
returns-clause-fits c = λ most.
    let count : length c.args.self.now ≡ c.self.inside.n = ap length (sym c.self.view_is) ∙ length-bits c.self.inside.words.items 0 c.self.inside.n in
    let words : length c.as_slice.result.now ≡ c.self.inside.n / 64 + 1 = ap length c.as_slice.ensures ∙ c.self.invariant.enough in
    let fits = c.cut.ensures.fits (omega (arith, most, count, words)) in
    omega (arith, fits, count, words)
