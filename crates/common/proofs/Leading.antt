-- Tests of whether pairs lead from one thing to another, each with the first pair or without it: they are reflexive and transitive,
-- and each pair leads on.
use Rattle.std.proofs.Common.{◌≡◌, sym, subst, Bool, List, [], ◌∷◌, ◌||◌, ◌&&◌, ◌⊎◌, inl, inr, ⊎_elim}
use Rattle.std.specs.Prelude.{IsTrue, Contains}
use Rattle.std.proofs.lemmas.Bool.{and_parts, and_from, or_left, or_right, or_cases}
use Rattle.common.proofs.Elements.{none_in_nil, Contains-cons_cases}

-- without pairs each thing leads to itself alone, and the first pair leads from what leads to its left side to what its right side
-- leads to
pub record IsLeading {U : Type 0} (leads : List (U × U) → U → U → Bool) : Type 0 where
  pub itself : (a : U) → IsTrue (leads [] a a)
  pub alone : (a b : U) → IsTrue (leads [] a b) → a ≡ b
  pub on : (pair : U × U) (pairs : List (U × U)) (a b : U) → leads (pair ∷ pairs) a b ≡ (leads pairs a b || (leads pairs a pair.0 && leads pairs pair.1 b))

module _ {U : Type 0} (leads : List (U × U) → U → U → Bool) (leading : IsLeading leads) where
  -- what the pairs after the first answer stays answered
  pub leading-later : (pair : U × U) (pairs : List (U × U)) (a b : U) → IsTrue (leads pairs a b) → IsTrue (leads (pair ∷ pairs) a b)
  leading-later pair pairs a b h = subst IsTrue (sym (leading.on pair pairs a b)) (or_left (leads pairs a b) _ h)

  -- by way of the first pair
  pub leading-first : (pair : U × U) (pairs : List (U × U)) (a b : U) → IsTrue (leads pairs a pair.0) → IsTrue (leads pairs pair.1 b) → IsTrue (leads (pair ∷ pairs) a b)
  leading-first pair pairs a b h k =
      subst IsTrue (sym (leading.on pair pairs a b)) (or_right (leads pairs a b) _ (and_from (leads pairs a pair.0) (leads pairs pair.1 b) h k))

  -- the two ways in which a test answers yes
  pub leading-cases : (pair : U × U) (pairs : List (U × U)) (a b : U) → IsTrue (leads (pair ∷ pairs) a b) →
      IsTrue (leads pairs a b) ⊎ (IsTrue (leads pairs a pair.0) × IsTrue (leads pairs pair.1 b))
  leading-cases pair pairs a b h =
      ⊎_elim inl (λ k. inr (and_parts (leads pairs a pair.0) (leads pairs pair.1 b) k)) (or_cases (leads pairs a b) _ (subst IsTrue (leading.on pair pairs a b) h))

  pub leading-itself : (pairs : List (U × U)) (a : U) → IsTrue (leads pairs a a)
  leading-itself [] a = leading.itself a
  leading-itself (pair ∷ pairs) a = leading-later pair pairs a a (leading-itself pairs a)

  pub leading-through : (pairs : List (U × U)) (a b c : U) → IsTrue (leads pairs a b) → IsTrue (leads pairs b c) → IsTrue (leads pairs a c)
  leading-through [] a b c h k = subst (λ x. IsTrue (leads [] a x)) (leading.alone b c k) h
  leading-through (pair ∷ pairs) a b c h k =
      ⊎_elim
      (λ h'. ⊎_elim
      (λ k'. leading-later pair pairs a c (leading-through pairs a b c h' k'))
      (λ k'. leading-first pair pairs a c (leading-through pairs a b pair.0 h' k'.0) k'.1)
      (leading-cases pair pairs b c k))
      (λ h'. ⊎_elim
      (λ k'. leading-first pair pairs a c h'.0 (leading-through pairs pair.1 b c h'.1 k'))
      (λ k'. leading-first pair pairs a c h'.0 k'.1)
      (leading-cases pair pairs b c k))
      (leading-cases pair pairs a b h)

  pub leading-one : (pairs : List (U × U)) (a b : U) → Contains pairs (a, b) → IsTrue (leads pairs a b)
  leading-one [] a b h = absurd (none_in_nil (a, b) h)
  leading-one (pair ∷ pairs) a b h =
      ⊎_elim
      (λ e. let P : U × U → Type 0 = λ p. IsTrue (leads (pair ∷ pairs) p.0 p.1) in
      subst P e (leading-first pair pairs pair.0 pair.1 (leading-itself pairs pair.0) (leading-itself pairs pair.1)))
      (λ k. leading-later pair pairs a b (leading-one pairs a b k))
      (Contains-cons_cases pair pairs (a, b) h)
