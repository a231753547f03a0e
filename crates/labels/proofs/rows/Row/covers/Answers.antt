use Rattle.std.proofs.Common.{ap, sym, ◌∙◌, subst, ◌≡◌, ◌≤◌, ◌+◌, ◌/◌, ℕ, length, false, not}
use Rattle.std.specs.Prelude.{◌↔◌, IsTrue}
use Rattle.labels.specs.Row.{Includes}
use Rattle.labels.specs.Words.{AreWords, GrowBetween, bits_of, has_bit}
use Rattle.labels.proofs.RowBits.{bounds-same, covers-values}
use Rattle.labels.proofs.rows.Row.covers.Goals as goal

pub covers_words-requires : goal.covers_words-requires
covers_words-requires c =
    let same : c.other.inside.n ≡ c.self.inside.n = bounds-same c.self.inside.words.items c.other.inside.words.items c.self.inside.n c.other.inside.n c.args.self.now c.args.other.now c.self.view_is c.other.view_is c.requires in
    let words = c.self.inside.words.items in
    let others = c.other.inside.words.items in
    let n = c.self.inside.n in
    let count : length others ≡ length words = c.other.invariant.enough ∙ (ap (λ k. k / 64 + 1) same ∙ sym c.self.invariant.enough) in
    ap length c.as_slice.ensures ∙ (sym count ∙ ap length (sym c.as_slice-2.ensures))

pub returns : goal.returns
returns c =
    let same : c.other.inside.n ≡ c.self.inside.n = bounds-same c.self.inside.words.items c.other.inside.words.items c.self.inside.n c.other.inside.n c.args.self.now c.args.other.now c.self.view_is c.other.view_is c.requires in
    let words = c.self.inside.words.items in
    let others = c.other.inside.words.items in
    let n = c.self.inside.n in
    let count : length others ≡ length words = c.other.invariant.enough ∙ (ap (λ k. k / 64 + 1) same ∙ sym c.self.invariant.enough) in
    let clear : (k : ℕ) → n ≤ k → has_bit others k ≡ false = λ k ge. c.other.invariant.clear k (subst (λ m. m ≤ k) (sym same) ge) in
    let small : AreWords others = subst AreWords c.as_slice-2.ensures c.covers_words.ensures.fit in
    let view : bits_of others 0 n ≡ c.args.other.now = ap (bits_of others 0) (sym same) ∙ c.other.view_is in
    let grow : GrowBetween words others 0 (length words) (not c.covers_words.result) =
    subst (λ xs. GrowBetween xs others 0 (length xs) (not c.covers_words.result)) c.as_slice.ensures
    (subst (λ xs. GrowBetween c.as_slice.result.now xs 0 (length c.as_slice.result.now) (not c.covers_words.result)) c.as_slice-2.ensures c.covers_words.ensures.compared) in
    subst (λ xs. IsTrue c.covers_words.result ↔ Includes xs c.args.other.now) c.self.view_is
    (subst (λ xs. IsTrue c.covers_words.result ↔ Includes (bits_of words 0 n) xs) view
    (covers-values n words others c.covers_words.result count small c.self.invariant.clear clear grow))
