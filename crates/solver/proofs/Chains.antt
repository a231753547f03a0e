-- The chain back along a trail.
use Rattle.std.proofs.Common.{◌≡◌, refl, sym, ap, ◌∙◌, subst, ℕ, suc, ◌<◌, ◌≤◌, ◌-◌, length, get_or, List, [], ◌∷◌, ◌++◌, reverse, arith}
use Rattle.std.proofs.lemmas.List.{reverse-append}
use Rattle.solver.specs.Reach.{CameFrom, EndsAt, IsTrail, LeadsTo, LeadsOn, ParentsFall, earlier, ends, goes_on, itself, nothing_found}
use Rattle.solver.specs.declared.edges.Edges.{Edges}
use Rattle.solver.specs.declared.search.Found.{Found}
use Rattle.solver.specs.declared.constraints.Atom.{Atom}
use Rattle.solver.specs.declared.constraints.Atom.TheVariants.{Unknown, Written}

-- what was walked back so far leads on to the end, from what the parent names
pub record IsWalked (edges : Edges) (n : ℕ) (found : List Found) (at : ℕ) (chain : List ℕ) (last : ℕ) (to : Atom) : Type 0 where
  pub from : Atom
  pub came : CameFrom n found (length found) at from
  pub leads : LeadsOn edges from (reverse chain) last to

abbrev pub Walks : (found : List Found) (parent at : ℕ) (chain : List ℕ) (last : ℕ) → Type 0
Walks found parent at chain last = (edges : Edges) (n : ℕ) (to : Atom) → IsTrail edges n found → EndsAt edges n found parent last to → IsWalked edges n found at chain last to

pub walks-start : (found : List Found) (parent last : ℕ) → Walks found parent parent (last ∷ []) last
walks-start found parent last edges n to trail end = record { from = end.from; came = end.came; leads = ends end.from to last end.leads }

reverse-push : (chain : List ℕ) (by : ℕ) → reverse (chain ++ by ∷ []) ≡ by ∷ reverse chain
reverse-push chain by = reverse-append chain (by ∷ [])

came-after : (n : ℕ) (found : List Found) (b parent : ℕ) (from : Atom) → b ≤ length found → CameFrom n found b parent from → CameFrom n found (length found) parent from
came-after n found b _ _ le itself = itself
came-after n found b _ _ le (earlier p u h e) = earlier p u (omega (arith, h, le)) e

-- one step back
step_back : (edges : Edges) (n : ℕ) (found : List Found) (at : ℕ) (chain : List ℕ) (last : ℕ) (to : Atom) (x : Found) → 0 < at → x ≡ get_or found (at - 1) nothing_found → IsTrail edges n found →
    (from : Atom) → CameFrom n found (length found) at from → LeadsOn edges from (reverse chain) last to → IsWalked edges n found x.parent (chain ++ x.by ∷ []) last to
step_back edges n found _ chain last to x pos is trail _ itself leads = absurd (omega (arith, pos))
step_back edges n found _ chain last to x pos is trail _ (earlier p u h e) leads =
    let at_p : suc p - 1 ≡ p = omega arith in
    let x_is : get_or found p nothing_found ≡ x = sym (is ∙ ap (λ j. get_or found j nothing_found) at_p) in
    let step = trail p h in
    record {
      from = step.from;
      came = subst (λ (y : Found). CameFrom n found (length found) y.parent step.from) x_is (came-after n found p _ step.from (omega (arith, h)) step.came);
      leads = subst (λ c. LeadsOn edges step.from c last to) (sym (reverse-push chain x.by))
          (goes_on step.from to x.by u last (reverse chain)
          (subst (λ w. LeadsTo edges step.from x.by (Unknown w)) e (subst (λ (y : Found). LeadsTo edges step.from y.by (Unknown (get_or found p nothing_found).unknown)) x_is step.leads)) leads);
    }

pub walks-step : (found : List Found) (parent at : ℕ) (chain : List ℕ) (last : ℕ) (x : Found) → 0 < at → x ≡ get_or found (at - 1) nothing_found →
    Walks found parent at chain last → Walks found parent x.parent (chain ++ x.by ∷ []) last
walks-step found parent at chain last x pos is walks edges n to trail end =
    let so_far = walks edges n to trail end in step_back edges n found at chain last to x pos is trail so_far.from so_far.came so_far.leads

came-zero : (n : ℕ) (found : List Found) (b at : ℕ) (from : Atom) → at ≡ 0 → CameFrom n found b at from → from ≡ Written n
came-zero n found b _ _ e itself = refl
came-zero n found b _ _ e (earlier p u h k) = absurd (omega (arith, e))

pub walks-end : (found : List Found) (parent at : ℕ) (chain : List ℕ) (last : ℕ) → at ≡ 0 → Walks found parent at chain last →
    (edges : Edges) (n : ℕ) (to : Atom) → IsTrail edges n found → EndsAt edges n found parent last to → LeadsOn edges (Written n) (reverse chain) last to
walks-end found parent at chain last e walks edges n to trail end =
    let w = walks edges n to trail end in subst (λ f. LeadsOn edges f (reverse chain) last to) (came-zero n found (length found) at w.from e w.came) w.leads

-- parents fall along a trail
came-falls : (n : ℕ) (found : List Found) (b parent : ℕ) (from : Atom) → CameFrom n found b parent from → parent ≤ b
came-falls n found b _ _ itself = omega arith
came-falls n found b _ _ (earlier p u h e) = omega (arith, h)

pub trail-falls : (edges : Edges) (n : ℕ) (found : List Found) → IsTrail edges n found → ParentsFall found
trail-falls edges n found trail k h = let step = trail k h in came-falls n found k (get_or found k nothing_found).parent step.from step.came
