-- Acts-for by paths from one number to another, with more and more numbers allowed between.
use Rattle.std.proofs.Common.{◌≡◌, ℕ, zero, suc, ◌<◌, Bool, ◌&&◌, ◌⊎◌, eqb, List, [], ◌∷◌, refl, sym, ap, subst, inl, inr, ⊎_elim, arith, not-suc-le-zero}
use Rattle.std.specs.Prelude.{IsTrue, Contains, All}
use Rattle.std.specs.List.{list_any}
use Rattle.std.proofs.lemmas.Bool.{eqb-true, eq-eqb, or_left, or_right, or_cases, and_from, and_parts, cases_eq}
use Rattle.std.proofs.lemmas.Bool.Decides.{same_from_decides}
use Rattle.principals.specs.ActsFor.{acts_for}
use Rattle.principals.specs.Table.{is_written, has_path_below}
use Rattle.common.proofs.Elements.{none_in_nil, Contains-cons_cases, Contains-first, Contains-later}
use Rattle.common.proofs.Leading.{leading-itself, leading-one, leading-through}
use Rattle.principals.proofs.Closure.{acts_for-leading, acts_for-least, acts_for-below}

-- ---- paths by steps of any relation

-- there is a path from a to b through numbers below k
abbrev Way : (ℕ → ℕ → Bool) → ℕ → ℕ → ℕ → Type 0
Way step k a b = IsTrue (has_path_below k step a b)

module _ (step : ℕ → ℕ → Bool) where
  way_without : (k a b : ℕ) → Way step k a b → Way step (suc k) a b
  way_without k a b h = or_left (has_path_below k step a b) _ h

  way_with : (k a b : ℕ) → Way step k a k → Way step k k b → Way step (suc k) a b
  way_with k a b h g = or_right (has_path_below k step a b) _ (and_from _ _ h g)

  way_cases : (k a b : ℕ) → Way step (suc k) a b → Way step k a b ⊎ (Way step k a k × Way step k k b)
  way_cases k a b h =
      ⊎_elim inl (λ g. inr (and_parts (has_path_below k step a k) (has_path_below k step k b) g)) (or_cases (has_path_below k step a b) _ h)

  -- a path to the newest number, or from it, needs no path through it
  way_to : (k a : ℕ) → Way step (suc k) a k → Way step k a k
  way_to k a h = ⊎_elim (λ g. g) (λ g. g.0) (way_cases k a k h)

  way_from : (k b : ℕ) → Way step (suc k) k b → Way step k k b
  way_from k b h = ⊎_elim (λ g. g) (λ g. g.1) (way_cases k k b h)

  way_at_once : (k a b : ℕ) → IsTrue (step a b) → Way step k a b
  way_at_once zero a b h = h
  way_at_once (suc k) a b h = way_without k a b (way_at_once k a b h)

  -- two paths that meet at a number below k are one
  ways_join : (k m a b : ℕ) → m < k → Way step k a m → Way step k m b → Way step k a b
  ways_join zero m a b l h g = absurd (not-suc-le-zero l)
  ways_join (suc k) m a b l h g =
      ⊎_elim
      (λ (e : m ≡ k). way_with k a b
      (way_to k a (subst (λ x. Way step (suc k) a x) e h))
      (way_from k b (subst (λ x. Way step (suc k) x b) e g)))
      (λ (ne : m ≡ k → ⊥).
      let below : m < k = omega arith in
      ⊎_elim
      (λ h'. ⊎_elim
      (λ g'. way_without k a b (ways_join k m a b below h' g'))
      (λ g'. way_with k a b (ways_join k m a k below h' g'.0) g'.1)
      (way_cases k m b g))
      (λ h'. ⊎_elim
      (λ g'. way_with k a b h'.0 (ways_join k m k b below h'.1 g'))
      (λ g'. way_with k a b h'.0 g'.1)
      (way_cases k m b g))
      (way_cases k a m h))
      (cases_eq m k)

  -- a transitive relation that has the steps has the paths
  way_within : (R : ℕ → ℕ → Type 0) → ((a b c : ℕ) → R a b → R b c → R a c) → ((a b : ℕ) → IsTrue (step a b) → R a b) →
      (k a b : ℕ) → Way step k a b → R a b
  way_within R transitive steps zero a b h = steps a b h
  way_within R transitive steps (suc k) a b h =
      ⊎_elim
      (λ g. way_within R transitive steps k a b g)
      (λ g. transitive a k b (way_within R transitive steps k a k g.0) (way_within R transitive steps k k b g.1))
      (way_cases k a b h)

-- ---- paths by written pairs

pub is_pair : (pair : ℕ × ℕ) (a b : ℕ) → IsTrue (eqb pair.0 a && eqb pair.1 b) → pair ≡ (a, b)
is_pair pair a b h =
    let both = and_parts (eqb pair.0 a) (eqb pair.1 b) h in
    let left : pair.0 ≡ a = eqb-true pair.0 a both.0 in
    let right : pair.1 ≡ b = eqb-true pair.1 b both.1 in
    λ i. (left i, right i)

pub listed_is_contained : (pairs : List (ℕ × ℕ)) (a b : ℕ) → IsTrue (list_any (λ pair. eqb pair.0 a && eqb pair.1 b) pairs) → Contains pairs (a, b)
listed_is_contained [] a b h = cc
listed_is_contained (pair ∷ pairs) a b h =
    ⊎_elim
    (λ g. subst (λ x. Contains (pair ∷ pairs) x) (is_pair pair a b g) (Contains-first pair pairs))
    (λ g. Contains-later pair pairs (a, b) (listed_is_contained pairs a b g))
    (or_cases (eqb pair.0 a && eqb pair.1 b) _ h)

pub contained_is_listed : (pairs : List (ℕ × ℕ)) (a b : ℕ) → Contains pairs (a, b) → IsTrue (list_any (λ pair. eqb pair.0 a && eqb pair.1 b) pairs)
contained_is_listed [] a b h = absurd (none_in_nil (a, b) h)
contained_is_listed (pair ∷ pairs) a b h =
    ⊎_elim
    (λ e. or_left (eqb pair.0 a && eqb pair.1 b) _ (and_from _ _ (eq-eqb pair.0 a (ap (λ p. p.0) e)) (eq-eqb pair.1 b (ap (λ p. p.1) e))))
    (λ g. or_right (eqb pair.0 a && eqb pair.1 b) _ (contained_is_listed pairs a b g))
    (Contains-cons_cases pair pairs (a, b) h)

written_is_answered : (pairs : List (ℕ × ℕ)) (a b : ℕ) → IsTrue (is_written pairs a b) → IsTrue (acts_for pairs a b)
written_is_answered pairs a b h =
    ⊎_elim
    (λ g. subst (λ x. IsTrue (acts_for pairs a x)) (eqb-true a b g) (leading-itself acts_for acts_for-leading pairs a))
    (λ g. leading-one acts_for acts_for-leading pairs a b (listed_is_contained pairs a b g))
    (or_cases (eqb a b) _ h)

-- where every number of a pair is below the limit, the paths through numbers below it are acts-for
pub has_path_below-all : (limit : ℕ) (pairs : List (ℕ × ℕ)) → All (λ pair. (pair.0 < limit) × (pair.1 < limit)) pairs →
    (a b : ℕ) → has_path_below limit (is_written pairs) a b ≡ acts_for pairs a b
has_path_below-all limit pairs below a b =
    let way_is_answered : (x y : ℕ) → Way (is_written pairs) limit x y → IsTrue (acts_for pairs x y) =
    way_within (is_written pairs) (λ x y. IsTrue (acts_for pairs x y)) (leading-through acts_for acts_for-leading pairs) (written_is_answered pairs) limit in
    let join : (x y z : ℕ) → Way (is_written pairs) limit x y → Way (is_written pairs) limit y z → Way (is_written pairs) limit x z =
    λ x y z h g. ⊎_elim
    (λ e. subst (λ w. Way (is_written pairs) limit w z) (sym e) g)
    (λ (l : (x < limit) × (y < limit)). ways_join (is_written pairs) limit y x z l.1 h g)
    (acts_for-below limit pairs below x y (way_is_answered x y h)) in
    same_from_decides {P = IsTrue (acts_for pairs a b)} (has_path_below limit (is_written pairs) a b) (acts_for pairs a b) (
      way_is_answered a b,
      λ h. acts_for-least (Way (is_written pairs) limit) pairs
          (λ x. way_at_once (is_written pairs) limit x x (or_left (eqb x x) _ (eq-eqb x x refl)))
          join
          (λ x y g. way_at_once (is_written pairs) limit x y (or_right (eqb x y) _ (contained_is_listed pairs x y g)))
          a b h,
    )
    (λ h. h, λ h. h)
