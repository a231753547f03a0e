-- The first constraint that one written element breaks, found along what it reaches, and the chain to it.
use Rattle.std.proofs.Common.{◌≡◌, refl, sym, subst, ℕ, suc, ◌<◌, ◌≤◌, ◌+◌, length, get_or, List, Bool, false, arith, zero-add, ⊎_elim, None, Some}
use Rattle.std.specs.Prelude.{Contains}
use Rattle.std.proofs.lemmas.List.Elements.{Contains-append_left, Contains-append_right, Contains-append_cases}
use Rattle.solver.specs.Breaker.{Arrives, BreaksAlong, IsBreakChain, itself, onward}
use Rattle.solver.specs.Broken.{candidates, earliest, found_candidates}
use Rattle.solver.specs.Reach as reach
use Rattle.solver.specs.Reach.{EndsAt, IsTrace, IsTrail, LeadsTo, LeadsOn, nothing_found, row_of}
use Rattle.solver.specs.declared.broken.Broken.{Broken}
use Rattle.solver.specs.declared.edges.Edges.{Edges}
use Rattle.solver.specs.declared.search.Found.{Found}
use Rattle.solver.specs.declared.constraints.Atom.{Atom}
use Rattle.solver.specs.declared.constraints.Atom.TheVariants.{Unknown, Written}
use Rattle.solver.proofs.Candidates.{IsOfEdge, broken, candidates-has, candidates-only, earliest-first, earliest-none, found_candidates-has, found_candidates-only, of_value}

module _ (edges : Edges) (below : ℕ → ℕ → Bool) (n : ℕ) (found : List Found) (trace : IsTrace edges n found) where
  -- what it breaks is a candidate
  breaks-candidate : (i to : ℕ) (from : Atom) → Arrives edges n from → LeadsTo edges from i (Written to) → below n to ≡ false →
      (b : Broken) × Contains (of_value edges below n found) b × (b.by ≡ i)
  breaks-candidate i to _ itself leads fails = (
    broken n 0 i to,
    Contains-append_left (candidates below n 0 (row_of edges (Written n))) (found_candidates edges below n 0 found) (broken n 0 i to)
        (candidates-has below n 0 (row_of edges (Written n)) i to leads fails),
    refl,
  )
  breaks-candidate i to _ (onward u r) leads fails =
      let has = trace.complete u r in
      let k = has.0 in
      let leads' : LeadsTo edges (Unknown (get_or found k nothing_found).unknown) i (Written to) = subst (λ w. LeadsTo edges (Unknown w) i (Written to)) (sym has.2) leads in
      let b = broken n (suc (0 + k)) i to in (
        b,
        Contains-append_right (candidates below n 0 (row_of edges (Written n))) (found_candidates edges below n 0 found) b
            (found_candidates-has edges below n 0 found k b has.1
            (candidates-has below n (suc (0 + k)) (row_of edges (Unknown (get_or found k nothing_found).unknown)) i to leads' fails)),
        refl,
      )

  pub breaks-some : (i : ℕ) → BreaksAlong edges below n i → earliest None (of_value edges below n found) ≡ None → ⊥
  breaks-some i breaks none =
      let one = breaks-candidate i breaks.to breaks.from breaks.arrives breaks.leads breaks.fails in
      earliest-none (of_value edges below n found) none one.0 one.1

  -- and a candidate is broken, at the end of a trail
  pub record IsBreak (b : Broken) : Type 0 where
    pub entered : EndsAt edges n found b.parent b.by (Written b.to)
    pub parent : b.parent ≤ length found
    pub fails : below n b.to ≡ false

  direct-break : (b : Broken) → IsOfEdge below n 0 (row_of edges (Written n)) b → IsBreak b
  direct-break b one =
      subst (λ (x : Broken). IsBreak x) (sym one.is) (record {
        entered = record { from = Written n; came = reach.itself; leads = one.along };
        parent = omega arith;
        fails = one.not_below;
      })

  onward-break : (k : ℕ) (b : Broken) → k < length found → IsOfEdge below n (suc k) (row_of edges (Unknown (get_or found k nothing_found).unknown)) b → IsBreak b
  onward-break k b h one =
      subst (λ (x : Broken). IsBreak x) (sym one.is) (record {
        entered = record {
          from = Unknown (get_or found k nothing_found).unknown;
          came = reach.earlier k (get_or found k nothing_found).unknown h refl;
          leads = one.along;
        };
        parent = omega (arith, h);
        fails = one.not_below;
      })

  candidate-breaks : (b : Broken) → Contains (of_value edges below n found) b → IsBreak b
  candidate-breaks b h =
      ⊎_elim
      (λ direct. direct-break b (candidates-only below n 0 (row_of edges (Written n)) b direct))
      (λ later.
      let step = found_candidates-only edges below n 0 found b later in
      let row = row_of edges (Unknown (get_or found step.0 nothing_found).unknown) in
      onward-break step.0 b step.1 (candidates-only below n (suc step.0) row b (subst (λ m. Contains (candidates below n (suc m) row) b) (zero-add step.0) step.2)))
      (Contains-append_cases (candidates below n 0 (row_of edges (Written n))) (found_candidates edges below n 0 found) b h)

  pub earliest-breaks : (b : Broken) → earliest None (of_value edges below n found) ≡ Some b → IsBreak b
  earliest-breaks b e = candidate-breaks b (earliest-first (of_value edges below n found) b e).one

  pub break-chain : (b : Broken) → earliest None (of_value edges below n found) ≡ Some b → (chain : List ℕ) → LeadsOn edges (Written n) chain b.by (Written b.to) →
      IsBreakChain edges below n chain
  break-chain b e chain leads = record {
    last = b.by;
    to = b.to;
    leads = leads;
    fails = (earliest-breaks b e).fails;
    first = λ i breaks.
        let one = breaks-candidate i breaks.to breaks.from breaks.arrives breaks.leads breaks.fails in
        subst (λ j. b.by ≤ j) one.2 ((earliest-first (of_value edges below n found) b e).first one.0 one.1);
  }
