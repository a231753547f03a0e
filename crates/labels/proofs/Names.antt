-- The names that a label's text has: sorted, each once, and without those that add nothing.
use Rattle.std.proofs.Common.{◌≡◌, ap, subst, ◌∙◌, sym, ℕ, ◌<◌, List, [], ◌∷◌, Bool, true, false, ◌&&◌, nat_lt, filter, cond, ⊎_elim}
use Rattle.std.specs.Prelude.{All, Contains, ◌==◌}
use Rattle.std.specs.List.{dedup}
use Rattle.std.specs.List.Sorted.{IsPermutation}
use Rattle.std.proofs.lemmas.Bool.{and_parts, and_from, ltb-true, lt-ltb}
use Rattle.std.proofs.lemmas.List.Elements.{All-weaker, filter_passes}
use Rattle.std.proofs.lemmas.List.Kept.{Contains-dedup_nat, Contains-from_dedup}
use Rattle.std.proofs.lemmas.List.Sorted.{Contains-permutation, IsPermutation-sym}
use Rattle.common.proofs.Elements.{none_in_nil, Contains-cons_cases, Contains-later, Contains-first}

-- a number that is that of a label, and not of the least one
abbrev pub is_name : ℕ → ℕ → Bool
is_name count number = nat_lt 0 number && nat_lt number count

module _ (test : ℕ → Bool) where
  -- what a filter keeps
  chosen : (y : ℕ) (rest : List ℕ) (x : ℕ) (t : Bool) → Contains (cond t (y ∷ rest) rest) x → Contains (y ∷ rest) x
  chosen y rest x true there = there
  chosen y rest x false there = Contains-later y rest x there

  chosen-rest : (y : ℕ) (rest : List ℕ) (x : ℕ) (t : Bool) → Contains rest x → Contains (cond t (y ∷ rest) rest) x
  chosen-rest y rest x true there = Contains-later y rest x there
  chosen-rest y rest x false there = there

  chosen-first : (y : ℕ) (rest : List ℕ) (t : Bool) → t ≡ true → Contains (cond t (y ∷ rest) rest) y
  chosen-first y rest true holds = Contains-first y rest
  chosen-first y rest false holds = absurd (cc)

  filter-from : (xs : List ℕ) (x : ℕ) → Contains (filter test xs) x → Contains xs x
  filter-from [] x there = there
  filter-from (y ∷ xs) x there =
      ⊎_elim (λ same. subst (λ z. Contains (y ∷ xs) z) same (Contains-first y xs)) (λ later. Contains-later y xs x (filter-from xs x later))
      (Contains-cons_cases y (filter test xs) x (chosen y (filter test xs) x (test y) there))

  filter-has : (xs : List ℕ) (x : ℕ) → Contains xs x → test x ≡ true → Contains (filter test xs) x
  filter-has [] x there holds = absurd (none_in_nil x there)
  filter-has (y ∷ xs) x there holds =
      ⊎_elim
      (λ same.
      subst (λ z. Contains (filter test (y ∷ xs)) z) same (chosen-first y (filter test xs) (test y) (ap test same ∙ holds)))
      (λ later. chosen-rest y (filter test xs) x (test y) (filter-has xs x later holds))
      (Contains-cons_cases y xs x there)

module _ (count : ℕ) (named sorted once kept : List ℕ) (moved : IsPermutation named sorted) (each_once : once ≡ dedup ◌==◌ sorted) (filtered : kept ≡ filter (is_name count) once) where
  pub names-inside : All (λ number. number < count) kept
  names-inside =
      subst (λ (xs : List ℕ). All (λ number. number < count) xs) (sym filtered)
      (All-weaker (λ number. is_name count number ≡ true) (λ number. number < count)
      (λ number passes. ltb-true number count (and_parts (nat_lt 0 number) (nat_lt number count) passes).1) (filter (is_name count) once) (filter_passes (is_name count) once))

  pub names-only : (number : ℕ) → Contains kept number → Contains named number
  names-only number there =
      Contains-permutation sorted named number (IsPermutation-sym named sorted moved)
      (Contains-from_dedup ◌==◌ sorted number
      (subst (λ xs. Contains xs number) each_once (filter-from (is_name count) once number (subst (λ xs. Contains xs number) filtered there))))

  pub names-all : (number : ℕ) → Contains named number → 0 < number → number < count → Contains kept number
  names-all number there some inside =
      subst (λ xs. Contains xs number) (sym filtered)
      (filter-has (is_name count) once number
      (subst (λ xs. Contains xs number) (sym each_once) (Contains-dedup_nat sorted number (Contains-permutation named sorted number moved there)))
      (and_from (nat_lt 0 number) (nat_lt number count) (lt-ltb 0 number some) (lt-ltb number count inside)))
