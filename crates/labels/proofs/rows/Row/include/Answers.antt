use Rattle.std.proofs.Common.{ap, sym, ◌∙◌, subst, ◌≡◌, ◌≤◌, ℕ, length, false, refl, arith}
use Rattle.smallvec.proofs.SmallVecLemmas.{items-with_items}
use Rattle.smallvec.specs.SmallVec.{with_items}
use Rattle.labels.specs.Row.{has}
use Rattle.labels.specs.Words.{AreJoined, bits_of, has_bit}
use Rattle.labels.proofs.RowBits.{bits-all, bound-most, included-bits, length-bits}
use Rattle.labels.proofs.rows.Row.include.Goals as goal

pub join_words-requires : goal.join_words-requires
join_words-requires c =
    let most : c.other.inside.n ≤ c.self.inside.n =
    bound-most c.self.inside.words.items c.other.inside.words.items c.self.inside.n c.other.inside.n c.args.self.now c.args.other.now c.self.view_is c.other.view_is c.requires in
    omega (arith, most, c.self.invariant.enough, c.other.invariant.enough, ap length c.as_mut_slice.ensures.value, ap length c.as_slice-others.ensures)

pub invariant_of-self : goal.invariant_of-self
invariant_of-self c =
    let words = c.self.inside.words.items in
    let others = c.other.inside.words.items in
    let n = c.self.inside.n in
    let most : c.other.inside.n ≤ n = bound-most words others n c.other.inside.n c.args.self.now c.args.other.now c.self.view_is c.other.view_is c.requires in
    let joined : AreJoined words others c.join_words.new.words 0 (length others) c.join_words.result =
    subst (λ xs. AreJoined xs others c.join_words.new.words 0 (length others) c.join_words.result) c.as_mut_slice.ensures.value
    (subst (λ xs. AreJoined c.as_mut_slice.result.now xs c.join_words.new.words 0 (length xs) c.join_words.result) c.as_slice-others.ensures c.join_words.ensures.joined) in
    let stored : (with_items c.self.inside.words c.join_words.new.words).items ≡ c.join_words.new.words =
    items-with_items c.self.inside.words c.join_words.new.words joined.count in
    record {
      enough = ap length stored ∙ (joined.count ∙ c.self.invariant.enough);
      clear = λ k ge.
          let none : has_bit others k ≡ false = c.other.invariant.clear k (omega (arith, most, ge)) in
          ap (λ xs. has_bit xs k) stored ∙ (included-bits words others c.join_words.new.words c.join_words.result joined k ∙ rw (c.self.invariant.clear k ge, none) refl);
    }

pub returns-clause-bound : goal.returns-clause-bound
returns-clause-bound c = length-bits _ 0 c.self.inside.n ∙ (sym (length-bits c.self.inside.words.items 0 c.self.inside.n) ∙ ap length c.self.view_is)

pub returns-clause-members : goal.returns-clause-members
returns-clause-members c = λ i.
    let words = c.self.inside.words.items in
    let others = c.other.inside.words.items in
    let n = c.self.inside.n in
    let most : c.other.inside.n ≤ n = bound-most words others n c.other.inside.n c.args.self.now c.args.other.now c.self.view_is c.other.view_is c.requires in
    let joined : AreJoined words others c.join_words.new.words 0 (length others) c.join_words.result =
    subst (λ xs. AreJoined xs others c.join_words.new.words 0 (length others) c.join_words.result) c.as_mut_slice.ensures.value
    (subst (λ xs. AreJoined c.as_mut_slice.result.now xs c.join_words.new.words 0 (length xs) c.join_words.result) c.as_slice-others.ensures c.join_words.ensures.joined) in
    let stored : (with_items c.self.inside.words c.join_words.new.words).items ≡ c.join_words.new.words =
    items-with_items c.self.inside.words c.join_words.new.words joined.count in
    let clear : (k : ℕ) → n ≤ k → has_bit c.join_words.new.words k ≡ false = λ k ge.
    let none : has_bit others k ≡ false = c.other.invariant.clear k (omega (arith, most, ge)) in
    included-bits words others c.join_words.new.words c.join_words.result joined k ∙ rw (c.self.invariant.clear k ge, none) refl in
    let old : has_bit words i ≡ has c.args.self.now i = sym (bits-all words n c.self.invariant.clear i) ∙ ap (λ row. has row i) c.self.view_is in
    let more : has_bit others i ≡ has c.args.other.now i = sym (bits-all others c.other.inside.n c.other.invariant.clear i) ∙ ap (λ row. has row i) c.other.view_is in
    ap (λ xs. has (bits_of xs 0 n) i) stored ∙ (bits-all c.join_words.new.words n clear i
    ∙ (included-bits words others c.join_words.new.words c.join_words.result joined i ∙ rw (old, more) refl))
