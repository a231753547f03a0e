-- What holds of acts-for: the test and the relation say the same, both are reflexive and transitive, more pairs never take an
-- answer away, and every reflexive and transitive relation that contains the written pairs contains acts-for.
use Rattle.std.proofs.Common.{◌≡◌, ℕ, eqb, List, [], ◌∷◌, ◌⊎◌, ◌↔◌, refl, sym, subst, inl, inr, ⊎_elim, ◌<◌, ◌≤◌, arith}
use Rattle.std.specs.Prelude.{Contains, All, IsTrue}
use Rattle.std.proofs.lemmas.Bool.{eqb-true, eq-eqb}
use Rattle.std.proofs.lemmas.Bool.Decides.{same_from_decides}
use Rattle.std.proofs.lemmas.List.Elements.{All-contains}
use Rattle.common.proofs.Elements.{Contains-later, Contains-first}
use Rattle.common.proofs.Leading.{IsLeading, leading-cases, leading-itself, leading-one, leading-through}
use Rattle.principals.specs.ActsFor.{ActsFor, itself, written, through, acts_for}

-- ---- the test

pub acts_for-leading : IsLeading acts_for
acts_for-leading = record { itself = λ a. eq-eqb a a refl; alone = eqb-true; on = λ pair pairs a b. refl }

-- ---- the relation and the test

-- each relation that is reflexive and transitive and contains the written pairs contains acts-for
pub ActsFor-least : (R : ℕ → ℕ → Type 0) (pairs : List (ℕ × ℕ)) → ((a : ℕ) → R a a) → ((a b c : ℕ) → R a b → R b c → R a c) →
    ((a b : ℕ) → Contains pairs (a, b) → R a b) → {a b : ℕ} → ActsFor pairs a b → R a b
ActsFor-least R pairs reflexive transitive contains (itself a) = reflexive a
ActsFor-least R pairs reflexive transitive contains (written a b h) = contains a b h
ActsFor-least R pairs reflexive transitive contains (through a b c h k) =
    transitive a b c (ActsFor-least R pairs reflexive transitive contains h) (ActsFor-least R pairs reflexive transitive contains k)

-- more pairs take no answer away
pub ActsFor-monotone : (pairs others : List (ℕ × ℕ)) → ((a b : ℕ) → Contains pairs (a, b) → Contains others (a, b)) → {a b : ℕ} → ActsFor pairs a b → ActsFor others a b
ActsFor-monotone pairs others more h = ActsFor-least (ActsFor others) pairs itself through (λ a b k. written a b (more a b k)) h

-- the test answers yes to the relation
pub acts_for-complete : (pairs : List (ℕ × ℕ)) {a b : ℕ} → ActsFor pairs a b → IsTrue (acts_for pairs a b)
acts_for-complete pairs h =
    ActsFor-least (λ a b. IsTrue (acts_for pairs a b)) pairs (leading-itself acts_for acts_for-leading pairs) (leading-through acts_for acts_for-leading pairs) (leading-one acts_for acts_for-leading pairs) h

-- and to nothing else
pub acts_for-sound : (pairs : List (ℕ × ℕ)) (a b : ℕ) → IsTrue (acts_for pairs a b) → ActsFor pairs a b
acts_for-sound [] a b h = subst (λ x. ActsFor [] a x) (eqb-true a b h) (itself a)
acts_for-sound (pair ∷ pairs) a b h =
    let later : (x y : ℕ) → ActsFor pairs x y → ActsFor (pair ∷ pairs) x y =
    λ x y k. ActsFor-monotone pairs (pair ∷ pairs) (λ c d. Contains-later pair pairs (c, d)) k in
    ⊎_elim
    (λ k. later a b (acts_for-sound pairs a b k))
    (λ k. through a pair.0 b (later a pair.0 (acts_for-sound pairs a pair.0 k.0))
    (through pair.0 pair.1 b (written pair.0 pair.1 (Contains-first pair pairs)) (later pair.1 b (acts_for-sound pairs pair.1 b k.1))))
    (leading-cases acts_for acts_for-leading pair pairs a b h)

pub acts_for-decides : (pairs : List (ℕ × ℕ)) (a b : ℕ) → IsTrue (acts_for pairs a b) ↔ ActsFor pairs a b
acts_for-decides pairs a b = (acts_for-sound pairs a b, λ h. acts_for-complete pairs h)

pub acts_for-least : (R : ℕ → ℕ → Type 0) (pairs : List (ℕ × ℕ)) → ((a : ℕ) → R a a) → ((a b c : ℕ) → R a b → R b c → R a c) →
    ((a b : ℕ) → Contains pairs (a, b) → R a b) → (a b : ℕ) → IsTrue (acts_for pairs a b) → R a b
acts_for-least R pairs reflexive transitive contains a b h = ActsFor-least R pairs reflexive transitive contains (acts_for-sound pairs a b h)

-- ---- numbers that no pair names

-- where each pair is below a limit, a number acts for itself alone unless it and the other are both below it
pub acts_for-below : (limit : ℕ) (pairs : List (ℕ × ℕ)) → All (λ pair. (pair.0 < limit) × (pair.1 < limit)) pairs →
    (a b : ℕ) → IsTrue (acts_for pairs a b) → (a ≡ b) ⊎ ((a < limit) × (b < limit))
acts_for-below limit pairs below a b h =
    acts_for-least (λ x y. (x ≡ y) ⊎ ((x < limit) × (y < limit))) pairs
    (λ x. inl refl)
    (λ x y z. ⊎_elim
    (λ e. let P : ℕ → Type 0 = λ w. (w ≡ z) ⊎ ((w < limit) × (z < limit)) in λ k. subst P (sym e) k)
    (λ l. ⊎_elim (λ e. inr (l.0, subst (λ w. w < limit) e l.1)) (λ m. inr (l.0, m.1))))
    (λ x y k. inr (All-contains (λ pair. (pair.0 < limit) × (pair.1 < limit)) pairs (x, y) below k))
    a b h

-- a number at the limit or above it acts for itself alone
pub acts_for-outside : (limit : ℕ) (pairs : List (ℕ × ℕ)) → All (λ pair. (pair.0 < limit) × (pair.1 < limit)) pairs →
    (a b : ℕ) → limit ≤ a → eqb a b ≡ acts_for pairs a b
acts_for-outside limit pairs below a b past =
    same_from_decides {P = a ≡ b} (eqb a b) (acts_for pairs a b) (eqb-true a b, eq-eqb a b) (
      λ h. ⊎_elim (λ e. e) (λ (l : (a < limit) × (b < limit)). absurd (omega arith)) (acts_for-below limit pairs below a b h),
      λ e. subst (λ x. IsTrue (acts_for pairs a x)) e (leading-itself acts_for acts_for-leading pairs a),
    )
