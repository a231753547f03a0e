use Rattle.std.proofs.Common.{ap, sym, ◌∙◌, subst, ◌≡◌, ◌≤◌, ◌+◌, ◌/◌, ℕ, length, false, refl, arith}
use Rattle.smallvec.proofs.SmallVecLemmas.{items-with_items}
use Rattle.smallvec.specs.SmallVec.{with_items}
use Rattle.labels.specs.Row.{has}
use Rattle.labels.specs.Words.{AreWordsMet, bits_of, has_bit}
use Rattle.labels.proofs.RowBits.{bits-all, bounds-same, length-bits, met-bits}
use Rattle.labels.proofs.rows.Row.meet.Goals as goal

pub meet_words-requires : goal.meet_words-requires
meet_words-requires c =
    let same : c.other.inside.n ≡ c.self.inside.n = bounds-same c.self.inside.words.items c.other.inside.words.items c.self.inside.n c.other.inside.n c.args.self.now c.args.other.now c.self.view_is c.other.view_is c.requires in
    let count : length c.other.inside.words.items ≡ length c.self.inside.words.items = c.other.invariant.enough ∙ (ap (λ k. k / 64 + 1) same ∙ sym c.self.invariant.enough) in
    omega (arith, count, ap length c.as_mut_slice.ensures.value, ap length c.as_slice.ensures)

pub invariant_of-self : goal.invariant_of-self
invariant_of-self c =
    let words = c.self.inside.words.items in
    let others = c.other.inside.words.items in
    let n = c.self.inside.n in
    let same : c.other.inside.n ≡ n = bounds-same words others n c.other.inside.n c.args.self.now c.args.other.now c.self.view_is c.other.view_is c.requires in
    let count : length others ≡ length words = c.other.invariant.enough ∙ (ap (λ k. k / 64 + 1) same ∙ sym c.self.invariant.enough) in
    let met : AreWordsMet words others c.meet_words.new.words (length words) =
    subst (λ xs. AreWordsMet xs others c.meet_words.new.words (length xs)) c.as_mut_slice.ensures.value
    (subst (λ xs. AreWordsMet c.as_mut_slice.result.now xs c.meet_words.new.words (length c.as_mut_slice.result.now)) c.as_slice.ensures c.meet_words.ensures) in
    let stored : (with_items c.self.inside.words c.meet_words.new.words).items ≡ c.meet_words.new.words =
    items-with_items c.self.inside.words c.meet_words.new.words met.count in
    record {
      enough = ap length stored ∙ (met.count ∙ c.self.invariant.enough);
      clear = λ k ge. ap (λ xs. has_bit xs k) stored ∙ (met-bits words others c.meet_words.new.words count met k ∙ rw (c.self.invariant.clear k ge) refl);
    }

pub returns-clause-bound : goal.returns-clause-bound
returns-clause-bound c = length-bits _ 0 c.self.inside.n ∙ (sym (length-bits c.self.inside.words.items 0 c.self.inside.n) ∙ ap length c.self.view_is)

pub returns-clause-members : goal.returns-clause-members
returns-clause-members c = λ i.
    let words = c.self.inside.words.items in
    let others = c.other.inside.words.items in
    let n = c.self.inside.n in
    let same : c.other.inside.n ≡ n = bounds-same words others n c.other.inside.n c.args.self.now c.args.other.now c.self.view_is c.other.view_is c.requires in
    let count : length others ≡ length words = c.other.invariant.enough ∙ (ap (λ k. k / 64 + 1) same ∙ sym c.self.invariant.enough) in
    let met : AreWordsMet words others c.meet_words.new.words (length words) =
    subst (λ xs. AreWordsMet xs others c.meet_words.new.words (length xs)) c.as_mut_slice.ensures.value
    (subst (λ xs. AreWordsMet c.as_mut_slice.result.now xs c.meet_words.new.words (length c.as_mut_slice.result.now)) c.as_slice.ensures c.meet_words.ensures) in
    let stored : (with_items c.self.inside.words c.meet_words.new.words).items ≡ c.meet_words.new.words =
    items-with_items c.self.inside.words c.meet_words.new.words met.count in
    let clear : (k : ℕ) → n ≤ k → has_bit c.meet_words.new.words k ≡ false = λ k ge.
    met-bits words others c.meet_words.new.words count met k ∙ rw (c.self.invariant.clear k ge) refl in
    let old : has_bit words i ≡ has c.args.self.now i = sym (bits-all words n c.self.invariant.clear i) ∙ ap (λ row. has row i) c.self.view_is in
    let more : has_bit others i ≡ has c.args.other.now i = sym (bits-all others c.other.inside.n c.other.invariant.clear i) ∙ ap (λ row. has row i) c.other.view_is in
    ap (λ xs. has (bits_of xs 0 n) i) stored ∙ (bits-all c.meet_words.new.words n clear i
    ∙ (met-bits words others c.meet_words.new.words count met i ∙ rw (old, more) refl))
