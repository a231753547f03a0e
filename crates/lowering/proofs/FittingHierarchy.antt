-- The hierarchy of a graph is within the limits of the module file.
use Rattle.std.proofs.Common.{◌≡◌, ◌⊎◌, ℕ, ◌+◌, ◌*◌, ◌<◌, ◌≤◌, Bool, true, false, cond, ltb, eqb, List, [], ◌∷◌, length, get_or, refl, subst, inl, inr, arith}
use Rattle.std.specs.Prelude.{All}
use Rattle.std.specs.List.Sorted.{IsStrictlySortedBy}
use Rattle.std.specs.Ordering.{ordering_then}
use Rattle.std.specs.declared.cmp.Ordering.TheVariants.{Less, Equal, Greater}
use Rattle.std.proofs.lemmas.Bool.{ltb-true, eqb-true}
use Rattle.std.proofs.lemmas.List.Elements.{All-from_recursion, All-head, All-tail}
use Rattle.std.proofs.lemmas.Map.Keys.{sorted_head, sorted_tail}
use Rattle.principals.specs.ActsFor.{PrincipalHierarchy, IsHierarchy, AllBelow}
use Rattle.principals.specs.Named.{IsKeptName}
use Rattle.labels.specs.Sets.{ascending_set}
use Rattle.labels.proofs.Ascending.{ascending_set-sorted}
use Rattle.modules.specs.ByteFormat.{Fits}
use Rattle.modules.specs.Format.{is_above, pair_cmp, hierarchy}
use Rattle.modules.specs.FormatParts.{principals, pair_after}
use Rattle.lowering.specs.Interface.{hierarchy_contents}
use Rattle.lowering.proofs.Fronts.{FitEach-from_fronts, All-at_seam, above_from_sorted}
use Rattle.lowering.proofs.FittingNames.{principals_fit, number_fits}
use Rattle.lowering.proofs.Hierarchies.{pair_cmp-total, pairs_below}

-- a pair of numbers below 256 as one number
abbrev rank : ℕ × ℕ → ℕ
rank pair = pair.0 * 256 + pair.1

less_by : (a b c d : Bool) → ordering_then (cond a Less (cond b Equal Greater)) (cond c Less (cond d Equal Greater)) ≡ Less → (a ≡ true) ⊎ ((b ≡ true) × (c ≡ true))
less_by true b c d e = inl refl
less_by false true true d e = inr (refl, refl)
less_by false true false true e = absurd (cc)
less_by false true false false e = absurd (cc)
less_by false false c d e = absurd (cc)

rank_below : (p q : ℕ × ℕ) → pair_cmp p q ≡ Less → p.1 < 256 → rank p + 1 ≤ rank q
rank_below p q e small =
    elim (less_by (ltb p.0 q.0) (eqb p.0 q.0) (ltb p.1 q.1) (eqb p.1 q.1) e) [
      | inl first ↦ omega (arith, ltb-true _ _ first)
      | inr second ↦ omega (arith, eqb-true _ _ second.0, ltb-true _ _ second.1)
    ]

-- a pair of numbers below 256 whose rank is not below another one
record Above (low : ℕ) (pair : ℕ × ℕ) : Type 0 where
  first : pair.0 < 256
  second : pair.1 < 256
  above : low ≤ rank pair

few_ranks : (low : ℕ) (pairs : List (ℕ × ℕ)) → IsStrictlySortedBy pair_cmp pairs → All (Above low) pairs → low ≤ 65536 → low + length pairs ≤ 65536
few_ranks low [] sorted all fits = omega (arith, fits)
few_ranks low (p ∷ pairs) sorted all fits =
    let here : Above low p = All-head (Above low) p pairs all in
    let later : All (Above low) pairs = All-tail (Above low) p pairs all in
    let below : All (λ q. pair_cmp p q ≡ Less) pairs = All-from_recursion (λ q. pair_cmp p q ≡ Less) pairs (sorted_head pair_cmp p pairs sorted) in
    let more = few_ranks (rank p + 1) pairs (sorted_tail pair_cmp p pairs sorted) (λ k d lt. record {
      first = (later k d lt).first;
      second = (later k d lt).second;
      above = rank_below p (get_or pairs k d) (below k d lt) here.second;
    }) (omega (arith, here.first, here.second)) in
    omega (arith, more, here.above)

few_pairs : (count : ℕ) (pairs : List (ℕ × ℕ)) → count ≤ 256 → IsStrictlySortedBy pair_cmp pairs → AllBelow count pairs → length pairs ≤ 65536
few_pairs count pairs few sorted there =
    omega (arith, few_ranks 0 pairs sorted (λ k d lt. let h = there k d lt in record { first = omega (arith, few, h.0); second = omega (arith, few, h.1); above = omega arith }) (omega arith))

pair_fits : (count : ℕ) (front : List (ℕ × ℕ)) (x : ℕ × ℕ) → count ≤ 256 → (x.0 < count) × (x.1 < count) → is_above pair_cmp front x ≡ true → Fits (pair_after count front) x
unfolding pair_after
pair_fits count front x few there above =
    ((number_fits count x.0 few there.0, number_fits count x.1 few there.1), above)

pub hierarchy-fits : (h : PrincipalHierarchy) → IsHierarchy h → All IsKeptName h.names → Fits hierarchy (hierarchy_contents h)
unfolding hierarchy principals pair_after
hierarchy-fits h is each =
    let count = length h.names in
    let pairs = ascending_set pair_cmp h.pairs in
    let sorted : IsStrictlySortedBy pair_cmp pairs = ascending_set-sorted pair_cmp-total h.pairs in
    let there : AllBelow count pairs = pairs_below count h.pairs is.there in (
      (
        principals_fit h.names each is.different is.few,
        (
          omega (arith, few_pairs count pairs is.few sorted there),
          refl,
          FitEach-from_fronts _ pairs (λ front x rest e. pair_fits count front x is.few (All-at_seam front x rest (λ (pair : ℕ × ℕ). (pair.0 < count) × (pair.1 < count)) (subst (AllBelow count) e there)) (above_from_sorted pair_cmp front x rest (subst (IsStrictlySortedBy pair_cmp) e sorted))),
        ),
      ),
      refl,
    )
