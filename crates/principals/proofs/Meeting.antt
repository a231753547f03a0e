-- Whether two rows of words of 64 bits have a number in common, and the row of some numbers.
use Rattle.std.proofs.Common.{◌≡◌, ◌≢◌, ℕ, zero, suc, ◌+◌, ◌*◌, ◌/◌, ◌%◌, ◌^◌, ◌<◌, ◌≤◌, ◌↔◌, Bool, eqb-true, eq-eqb, List, [], ◌∷◌, ◌++◌, ◌⊎◌, inl, inr, get_or, length, sym, ap, subst, ◌∙◌, ⊎_elim, arith, min, pow-suc}
use Rattle.std.specs.Prelude.{Contains, IsTrue, bit_and}
use Rattle.std.specs.Int.{bit_at}
use Rattle.std.proofs.lemmas.Bool.{cases_eq}
use Rattle.std.proofs.lemmas.List.{get_or_past}
use Rattle.std.proofs.lemmas.List.Elements.{Contains-append_left, Contains-push, Contains-push_cases}
use Rattle.std.proofs.lemmas.Nat.{and_le_l}
use Rattle.std.proofs.lemmas.Nat.Bits.{bit_at_and, bit_at-lt, bit_at_lowest, bit_at-suc, bit_at-zero}
use Rattle.principals.proofs.Bits.{bit_among}

-- a number that is not 0 has a bit
some_bit : (w n : ℕ) → n < 2 ^ w → n ≢ 0 → (i : ℕ) × (i < w) × (bit_at n i ≡ 1)
some_bit zero n h some = absurd (some (omega arith))
some_bit (suc w) n h some =
    ⊎_elim
    (λ (odd : n % 2 ≡ 1). (0, omega arith, bit_at_lowest n ∙ odd))
    (λ (even : n % 2 ≢ 1).
    let half : n / 2 < 2 ^ w = omega (arith, pow-suc 2 w) in
    let more : n / 2 ≢ 0 = λ e. some (omega arith) in
    let rest = some_bit w (n / 2) half more in
    (suc rest.0, omega (arith, rest.1), bit_at-suc n rest.0 ∙ rest.2))
    (cases_eq (n % 2) 1)

-- the number of a bit among words
at_word : (words : List ℕ) (k i : ℕ) → i < 64 → bit_at (get_or words k 0) i ≡ 1 → IsTrue (bit_among words (k * 64 + i))
at_word words k i small set =
    let word : (k * 64 + i) / 64 ≡ k = omega arith in
    let bit : (k * 64 + i) % 64 ≡ i = omega arith in
    let same : bit_at (get_or words ((k * 64 + i) / 64) 0) ((k * 64 + i) % 64) ≡ 1 = rw (word, bit) set in
    eq-eqb _ 1 same

-- two words with a bit in common
pub in_both : (words others : List ℕ) (k : ℕ) → get_or words k 0 < 2 ^ 64 → bit_and (get_or words k 0) (get_or others k 0) ≢ 0 →
    (member : ℕ) × IsTrue (bit_among words member) × IsTrue (bit_among others member)
in_both words others k small some =
    let left = get_or words k 0 in
    let right = get_or others k 0 in
    let fits : bit_and left right < 2 ^ 64 = omega (arith, and_le_l left right) in
    let found = some_bit 64 (bit_and left right) fits some in
    let i = found.0 in
    let both : min (bit_at left i) (bit_at right i) ≡ 1 = sym (bit_at_and left right i) ∙ found.2 in
    let here : bit_at left i ≡ 1 = omega (arith, both, bit_at-lt left i, bit_at-lt right i) in
    let there : bit_at right i ≡ 1 = omega (arith, both, bit_at-lt left i, bit_at-lt right i) in
    (k * 64 + i, at_word words k i found.1 here, at_word others k i found.1 there)

-- words without a bit in common
pub in_neither : (words others : List ℕ) (member : ℕ) → bit_and (get_or words (member / 64) 0) (get_or others (member / 64) 0) ≡ 0 →
    IsTrue (bit_among words member) → IsTrue (bit_among others member) → ⊥
in_neither words others member none here there =
    let left = get_or words (member / 64) 0 in
    let right = get_or others (member / 64) 0 in
    let i = member % 64 in
    let both : bit_at (bit_and left right) i ≡ 0 = ap (λ x. bit_at x i) none ∙ bit_at-zero i in
    let l : bit_at left i ≡ 1 = eqb-true _ 1 here in
    let r : bit_at right i ≡ 1 = eqb-true _ 1 there in
    omega (arith, bit_at_and left right i, both, l, r)

-- a row without the words of a bit does not have it
pub beyond : (words : List ℕ) (member : ℕ) → length words ≤ member / 64 → IsTrue (bit_among words member) → ⊥
beyond words member past there =
    let set : bit_at (get_or words (member / 64) 0) (member % 64) ≡ 1 = eqb-true _ 1 there in
    let none : get_or words (member / 64) 0 ≡ 0 = get_or_past words (member / 64) 0 past in
    omega (arith, sym (ap (λ x. bit_at x (member % 64)) none) ∙ set, bit_at-zero (member % 64))

-- one number more is made a member, if it is small
pub with_one : (Small : ℕ → Type 0) (numbers : List ℕ) (number member : ℕ) (old new : Bool) →
    IsTrue old ↔ (Small member × Contains numbers member) →
    IsTrue new ↔ ((Small member × (member ≡ number)) ⊎ IsTrue old) →
    IsTrue new ↔ (Small member × Contains (numbers ++ number ∷ []) member)
with_one Small numbers number member old new before step = (
  λ h. ⊎_elim
      (λ one. (one.0, subst (Contains (numbers ++ number ∷ [])) (sym one.1) (Contains-push numbers number)))
      (λ o. let was = before.0 o in (was.0, Contains-append_left numbers (number ∷ []) member was.1))
      (step.0 h),
  λ p. step.1 (⊎_elim
      (λ was. inr (before.1 (p.0, was)))
      (λ (same : number ≡ member). inl (p.0, sym same))
      (Contains-push_cases numbers number member p.1)),
)
