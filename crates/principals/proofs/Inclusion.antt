-- When one hierarchy contains another.
use Rattle.std.proofs.Common.{◌≡◌, ◌↔◌, ℕ, List, [], get_or, subst}
use Rattle.std.specs.Prelude.{All, Contains}
use Rattle.std.proofs.lemmas.List.Elements.{All-contains, Contains-get_or}
use Rattle.std.proofs.lemmas.Option.{slice_get-get_or}
use Rattle.common.proofs.Cases.{contained_at, contained_place}
use Rattle.principals.specs.ActsFor.{PrincipalHierarchy, ActsFor, itself, written, through, HasName, IsHierarchy, ContainsHierarchy}
use Rattle.principals.proofs.Closure.{ActsFor-least}
use Rattle.principals.proofs.Names.{one_number}

module _ (whole part : PrincipalHierarchy) (here : List ℕ) (number_here : (n : ℕ) (name : List ℕ) → HasName part n name → HasName whole (get_or here n 0) name) where
  -- acts-for of the numbers that two principals of the part have in the whole
  abbrev ActsHere : ℕ → ℕ → Type 0
  ActsHere a b = ActsFor whole.pairs (get_or here a 0) (get_or here b 0)

  pub contains_from_pairs : All (λ pair. ActsHere pair.0 pair.1) part.pairs → ContainsHierarchy whole part
  contains_from_pairs pairs =
      let each : (a b : ℕ) → ActsFor part.pairs a b → ActsHere a b =
      λ a b h. ActsFor-least ActsHere part.pairs
      (λ x. itself (get_or here x 0))
      (λ x y z g k. through (get_or here x 0) (get_or here y 0) (get_or here z 0) g k)
      (λ x y g. All-contains (λ pair. ActsHere pair.0 pair.1) part.pairs (x, y) pairs g)
      h in
      record {
        principals = λ name h.
            let n = contained_place part.names name h in
            contained_at whole.names (get_or here n.0 0) name (number_here n.0 name n.1);
        acts = λ first second h. (get_or here h.0 0, get_or here h.1 0, number_here h.0 first h.2, number_here h.1 second h.3, each h.0 h.1 h.4);
      }

  pub pairs_from_contains : IsHierarchy whole → IsHierarchy part → ContainsHierarchy whole part → All (λ pair. ActsHere pair.0 pair.1) part.pairs
  pairs_from_contains kept kept_part contains k d l =
      let pair = get_or part.pairs k d in
      let there = kept_part.there k d l in
      let first = get_or part.names pair.0 [] in
      let second = get_or part.names pair.1 [] in
      let has_first : HasName part pair.0 first = slice_get-get_or part.names pair.0 [] there.0 in
      let has_second : HasName part pair.1 second = slice_get-get_or part.names pair.1 [] there.1 in
      let acts = contains.acts first second (pair.0, pair.1, has_first, has_second, written pair.0 pair.1 (Contains-get_or part.pairs k d l)) in
      let same_first : acts.0 ≡ get_or here pair.0 0 = one_number whole.names kept.different acts.0 (get_or here pair.0 0) first acts.2 (number_here pair.0 first has_first) in
      let same_second : acts.1 ≡ get_or here pair.1 0 = one_number whole.names kept.different acts.1 (get_or here pair.1 0) second acts.3 (number_here pair.1 second has_second) in
      subst (λ x. ActsFor whole.pairs x (get_or here pair.1 0)) same_first (subst (λ x. ActsFor whole.pairs acts.0 x) same_second acts.4)

  pub contains_iff_pairs : IsHierarchy whole → IsHierarchy part → All (λ pair. ActsHere pair.0 pair.1) part.pairs ↔ ContainsHierarchy whole part
  contains_iff_pairs kept kept_part = (contains_from_pairs, pairs_from_contains kept kept_part)

-- a name of the part that is not in the whole
pub not_contained : (whole part : PrincipalHierarchy) → (name : List ℕ) × Contains part.names name × (¬ Contains whole.names name) → ContainsHierarchy whole part → ⊥
not_contained whole part missing contains = missing.2 (contains.principals missing.0 missing.1)
