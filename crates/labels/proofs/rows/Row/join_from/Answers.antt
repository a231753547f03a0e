use Rattle.std.proofs.Common.{ap, sym, ◌∙◌, subst, ◌≡◌, ◌+◌, ◌/◌, length, false, refl, arith}
use Rattle.smallvec.proofs.SmallVecLemmas.{items-with_items}
use Rattle.smallvec.specs.SmallVec.{with_items}
use Rattle.std.specs.Prelude.{◌↔◌, ◌≢◌, IsTrue}
use Rattle.labels.specs.Row.{union}
use Rattle.labels.specs.Words.{bits_of, has_bit}
use Rattle.labels.proofs.RowBits.{bounds-same, joined-bits, joined-grew, joined-values, rows-joined}
use Rattle.labels.proofs.rows.Row.join_from.Goals as goal

pub join_words-requires : goal.join_words-requires
join_words-requires c =
    let same : c.other.inside.n ≡ c.self.inside.n = bounds-same c.self.inside.words.items c.other.inside.words.items c.self.inside.n c.other.inside.n c.args.self.now c.args.other.now c.self.view_is c.other.view_is c.requires in
    let words = c.self.inside.words.items in
    let others = c.other.inside.words.items in
    let n = c.self.inside.n in
    let count : length others ≡ length words = c.other.invariant.enough ∙ (ap (λ k. k / 64 + 1) same ∙ sym c.self.invariant.enough) in
    omega (arith, count, ap length c.as_mut_slice.ensures.value, ap length c.as_slice.ensures)

pub invariant_of-self : goal.invariant_of-self
invariant_of-self c =
    let words = c.self.inside.words.items in
    let others = c.other.inside.words.items in
    let n = c.self.inside.n in
    let new = c.join_words.new.words in
    let all = rows-joined words others _ _ new c.join_words.result n c.other.inside.n c.args.self.now c.args.other.now c.self.view_is c.other.view_is c.requires c.self.invariant.enough c.other.invariant.enough c.other.invariant.clear c.as_mut_slice.ensures.value c.as_slice.ensures c.join_words.ensures.fit c.join_words.ensures.joined in
    let stored : new ≡ (with_items c.self.inside.words new).items = sym (items-with_items c.self.inside.words new all.joined.count) in
    record {
      enough = ap length (sym stored) ∙ (all.joined.count ∙ c.self.invariant.enough);
      clear = λ k ge. subst (λ xs. has_bit xs k ≡ false) stored (joined-bits n words others new c.join_words.result all.count all.small all.clear all.joined k ∙ rw (c.self.invariant.clear k ge, all.clear k ge) refl);
    }

pub returns-clause-union : goal.returns-clause-union
returns-clause-union c =
    let words = c.self.inside.words.items in
    let others = c.other.inside.words.items in
    let n = c.self.inside.n in
    let new = c.join_words.new.words in
    let all = rows-joined words others _ _ new c.join_words.result n c.other.inside.n c.args.self.now c.args.other.now c.self.view_is c.other.view_is c.requires c.self.invariant.enough c.other.invariant.enough c.other.invariant.clear c.as_mut_slice.ensures.value c.as_slice.ensures c.join_words.ensures.fit c.join_words.ensures.joined in
    let stored : new ≡ (with_items c.self.inside.words new).items = sym (items-with_items c.self.inside.words new all.joined.count) in
    ap (λ xs. bits_of xs 0 n) (sym stored) ∙ joined-values n words others new c.join_words.result all.count all.small all.clear all.joined
    ∙ (ap (λ xs. union xs (bits_of others 0 n)) c.self.view_is ∙ ap (union c.args.self.now) all.view)

pub returns-clause-grew : goal.returns-clause-grew
returns-clause-grew c =
    let words = c.self.inside.words.items in
    let others = c.other.inside.words.items in
    let n = c.self.inside.n in
    let new = c.join_words.new.words in
    let all = rows-joined words others _ _ new c.join_words.result n c.other.inside.n c.args.self.now c.args.other.now c.self.view_is c.other.view_is c.requires c.self.invariant.enough c.other.invariant.enough c.other.invariant.clear c.as_mut_slice.ensures.value c.as_slice.ensures c.join_words.ensures.fit c.join_words.ensures.joined in
    let stored : new ≡ (with_items c.self.inside.words new).items = sym (items-with_items c.self.inside.words new all.joined.count) in
    subst (λ xs. IsTrue c.join_words.result ↔ (bits_of (with_items c.self.inside.words new).items 0 n ≢ xs)) c.self.view_is
    (subst (λ xs. IsTrue c.join_words.result ↔ (bits_of xs 0 n ≢ bits_of words 0 n)) stored
    (joined-grew n words others new c.join_words.result all.count all.small all.clear all.joined))
