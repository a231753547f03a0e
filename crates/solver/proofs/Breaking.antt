-- The earliest of the constraints that are broken: over lists put together, and what it is the earliest of.
use Rattle.std.proofs.Common.{◌≡◌, refl, sym, ap, ◌∙◌, subst, ℕ, suc, ◌<◌, ◌+◌, length, get_or, take, List, [], ◌∷◌, ◌++◌, Bool, arith, add-zero, zero-add, add-one, append_assoc, append-nil, ⊎_elim, Option}
use Rattle.std.specs.Prelude.{Contains}
use Rattle.std.proofs.lemmas.List.{take_more, length-take-le}
use Rattle.std.proofs.lemmas.List.Elements.{Contains-get_or}
use Rattle.common.proofs.Elements.{none_in_nil, Contains-cons_cases}
use Rattle.solver.specs.Broken.{RightsInside, broken_by, candidates, earlier, earliest, found_candidates}
use Rattle.solver.specs.Reach.{row_of, edge}
use Rattle.solver.specs.declared.broken.Broken.{Broken}
use Rattle.solver.specs.declared.edges.Edge.{Edge}
use Rattle.solver.specs.declared.edges.Edges.{Edges}
use Rattle.solver.specs.declared.search.Found.{Found}
use Rattle.solver.specs.declared.constraints.Atom.TheVariants.{Unknown, Written}

pub earliest-append : (best : Option Broken) (a b : List Broken) → earliest best (a ++ b) ≡ earliest (earliest best a) b
earliest-append best [] b = refl
earliest-append best (c ∷ a) b = earliest-append (earlier best c) a b

module _ (below : ℕ → ℕ → Bool) (value : ℕ) where
  candidates-append : (parent : ℕ) (a b : List Edge) → candidates below value parent (a ++ b) ≡ candidates below value parent a ++ candidates below value parent b
  candidates-append parent [] b = refl
  candidates-append parent (e ∷ a) b =
      ap (λ x. broken_by below value parent e.by e.to ++ x) (candidates-append parent a b)
      ∙ sym (append_assoc (broken_by below value parent e.by e.to) (candidates below value parent a) (candidates below value parent b))

  -- the step of a loop over edges
  pub edges_step : (parent : ℕ) (edges : List Edge) (i : ℕ) (d : Edge) (start best after : Option Broken) → i < length edges →
      best ≡ earliest start (candidates below value parent (take i edges)) →
      after ≡ earliest best (broken_by below value parent (get_or edges i d).by (get_or edges i d).to) →
      after ≡ earliest start (candidates below value parent (take (i + 1) edges))
  edges_step parent edges i d start best after h so_far more =
      let last = get_or edges i d in
      let step = broken_by below value parent last.by last.to in
      more
      ∙ (ap (λ b. earliest b step) so_far
      ∙ (sym (earliest-append start (candidates below value parent (take i edges)) step)
      ∙ ap (earliest start)
      (ap (λ x. candidates below value parent (take i edges) ++ x) (sym (append-nil step))
      ∙ (sym (candidates-append parent (take i edges) (last ∷ [])) ∙ ap (candidates below value parent) (sym (take_more edges i d h))))))

  found-append : (edges : Edges) (k : ℕ) (a b : List Found) → found_candidates edges below value k (a ++ b) ≡
      found_candidates edges below value k a ++ found_candidates edges below value (k + length a) b
  found-append edges k [] b = ap (λ n. found_candidates edges below value n b) (sym (add-zero k))
  found-append edges k (f ∷ a) b =
      let first = candidates below value (suc k) (row_of edges (Unknown f.unknown)) in
      let e : suc k + length a ≡ k + length (f ∷ a) = omega arith in
      ap (λ x. first ++ x) (found-append edges (suc k) a b ∙ ap (λ n. found_candidates edges below value (suc k) a ++ found_candidates edges below value n b) e)
      ∙ sym (append_assoc first (found_candidates edges below value (suc k) a) (found_candidates edges below value (k + length (f ∷ a)) b))

  -- the step of a loop over what was found
  pub found_step : (edges : Edges) (found : List Found) (i : ℕ) (d : Found) (row : List Edge) (start : Option Broken) (first : List Broken) (best after : Option Broken) → i < length found →
      row ≡ row_of edges (Unknown (get_or found i d).unknown) →
      best ≡ earliest start (first ++ found_candidates edges below value 0 (take i found)) →
      after ≡ earliest best (candidates below value (i + 1) row) →
      after ≡ earliest start (first ++ found_candidates edges below value 0 (take (i + 1) found))
  found_step edges found i d row start first best after h row_is so_far more =
      let last = get_or found i d in
      let before = found_candidates edges below value 0 (take i found) in
      let len : 0 + length (take i found) ≡ i = zero-add (length (take i found)) ∙ length-take-le i found (omega (arith, h)) in
      let step = candidates below value (suc i) (row_of edges (Unknown last.unknown)) in
      let step_is : candidates below value (i + 1) row ≡ step = ap (λ r. candidates below value (i + 1) r) row_is ∙ ap (λ n. candidates below value n (row_of edges (Unknown last.unknown))) (add-one i) in
      let longer : found_candidates edges below value 0 (take (i + 1) found) ≡ before ++ step =
      ap (found_candidates edges below value 0) (take_more found i d h)
      ∙ (found-append edges 0 (take i found) (last ∷ [])
      ∙ (ap (λ n. before ++ found_candidates edges below value n (last ∷ [])) len ∙ ap (λ x. before ++ x) (append-nil step))) in
      more
      ∙ (ap (earliest best) step_is
      ∙ (ap (λ b. earliest b step) so_far
      ∙ (sym (earliest-append start (first ++ before) step)
      ∙ ap (earliest start) (append_assoc first before step ∙ ap (λ x. first ++ x) (sym longer)))))

pub one-right_inside : (edges : List Edge) (i : ℕ) (d : Edge) (count : ℕ) → i < length edges → RightsInside count edges → RightsInside count (get_or edges i d ∷ [])
one-right_inside edges i d count h inside by n in' =
    inside by n
    (⊎_elim (λ is. subst (λ x. Contains edges x) is (Contains-get_or edges i d h)) (λ no. absurd (none_in_nil (edge by (Written n)) no))
    (Contains-cons_cases (get_or edges i d) [] (edge by (Written n)) in'))
