use Rattle.std.proofs.Common.{ap, sym, ◌∙◌, subst, ◌≡◌, ◌+◌, ◌*◌, ◌||◌, length, arith}
use Rattle.smallvec.proofs.SmallVecLemmas.{items-with_items}
use Rattle.smallvec.specs.SmallVec.{with_items}
use Rattle.labels.specs.Row.{has}
use Rattle.labels.specs.Words.{AreJoinedAt, bits_of, has_bit}
use Rattle.labels.proofs.PieceBits.{at-before, at-from, clear-at}
use Rattle.labels.proofs.RowBits.{bits-all, length-bits}
use Rattle.labels.proofs.rows.Row.include_words.Goals as goal

pub join_words_at-requires : goal.join_words_at-requires
join_words_at-requires c =
    let count : length c.args.self.now ≡ c.self.inside.n = ap length (sym c.self.view_is) ∙ length-bits c.self.inside.words.items 0 c.self.inside.n in
    omega (arith, c.requires.fits, count, c.self.invariant.enough, ap length c.as_mut_slice.ensures.value)

pub invariant_of-self : goal.invariant_of-self
invariant_of-self c =
    let words = c.self.inside.words.items in
    let n = c.self.inside.n in
    let new = c.join_words_at.new.words in
    let count : length c.args.self.now ≡ n = ap length (sym c.self.view_is) ∙ length-bits words 0 n in
    let joined : AreJoinedAt words c.args.others.now new c.args.at (length c.args.others.now) =
    subst (λ xs. AreJoinedAt xs c.args.others.now new c.args.at (length c.args.others.now)) c.as_mut_slice.ensures.value c.join_words_at.ensures in
    let stored : (with_items c.self.inside.words new).items ≡ new = items-with_items c.self.inside.words new joined.same in
    record {
      enough = ap length stored ∙ (joined.same ∙ c.self.invariant.enough);
      clear = λ k ge. ap (λ xs. has_bit xs k) stored
          ∙ clear-at words c.args.others.now new c.args.at joined n c.self.invariant.clear (λ i h. c.requires.clear i (omega (arith, h, count))) k ge;
    }

pub returns-clause-bound : goal.returns-clause-bound
returns-clause-bound c = length-bits _ 0 c.self.inside.n ∙ (sym (length-bits c.self.inside.words.items 0 c.self.inside.n) ∙ ap length c.self.view_is)

pub returns-clause-before : goal.returns-clause-before
returns-clause-before c = λ i h.
    let words = c.self.inside.words.items in
    let n = c.self.inside.n in
    let new = c.join_words_at.new.words in
    let count : length c.args.self.now ≡ n = ap length (sym c.self.view_is) ∙ length-bits words 0 n in
    let joined : AreJoinedAt words c.args.others.now new c.args.at (length c.args.others.now) =
    subst (λ xs. AreJoinedAt xs c.args.others.now new c.args.at (length c.args.others.now)) c.as_mut_slice.ensures.value c.join_words_at.ensures in
    let stored : (with_items c.self.inside.words new).items ≡ new = items-with_items c.self.inside.words new joined.same in
    let clear = clear-at words c.args.others.now new c.args.at joined n c.self.invariant.clear (λ i h. c.requires.clear i (omega (arith, h, count))) in
    ap (λ xs. has (bits_of xs 0 n) i) stored ∙ (bits-all new n clear i ∙ (at-before words c.args.others.now new c.args.at joined i h
    ∙ (sym (bits-all words n c.self.invariant.clear i) ∙ ap (λ row. has row i) c.self.view_is)))

pub returns-clause-from : goal.returns-clause-from
returns-clause-from c = λ i.
    let words = c.self.inside.words.items in
    let n = c.self.inside.n in
    let new = c.join_words_at.new.words in
    let k = 64 * c.args.at + i in
    let count : length c.args.self.now ≡ n = ap length (sym c.self.view_is) ∙ length-bits words 0 n in
    let joined : AreJoinedAt words c.args.others.now new c.args.at (length c.args.others.now) =
    subst (λ xs. AreJoinedAt xs c.args.others.now new c.args.at (length c.args.others.now)) c.as_mut_slice.ensures.value c.join_words_at.ensures in
    let stored : (with_items c.self.inside.words new).items ≡ new = items-with_items c.self.inside.words new joined.same in
    let clear = clear-at words c.args.others.now new c.args.at joined n c.self.invariant.clear (λ i h. c.requires.clear i (omega (arith, h, count))) in
    ap (λ xs. has (bits_of xs 0 n) k) stored ∙ (bits-all new n clear k ∙ (at-from words c.args.others.now new c.args.at joined i
    ∙ ap (λ b. b || has_bit c.args.others.now i) (sym (bits-all words n c.self.invariant.clear k) ∙ ap (λ row. has row k) c.self.view_is)))
