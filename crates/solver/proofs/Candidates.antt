-- Which constraints are candidates for the first that is broken, and that the earliest is one of them and before all.
use Rattle.std.proofs.Common.{◌≡◌, refl, sym, ap, subst, ℕ, zero, suc, ◌<◌, ◌≤◌, ◌+◌, length, get_or, List, [], ◌∷◌, ◌++◌, Bool, true, false, arith, add-zero, nat_lt, ⊎_elim, Option, Some, None}
use Rattle.std.specs.Prelude.{Contains}
use Rattle.std.proofs.lemmas.Bool.{ltb-true, ltb-false}
use Rattle.std.proofs.lemmas.List.Elements.{Contains-append_cases, Contains-append_left, Contains-append_right}
use Rattle.common.proofs.Elements.{none_in_nil, Contains-cons_cases, Contains-later, Contains-first}
use Rattle.solver.specs.Broken.{broken_by, candidates, earliest, found_candidates}
use Rattle.solver.specs.Reach.{edge, nothing_found, row_of}
use Rattle.solver.specs.declared.broken.Broken.{Broken}
use Rattle.solver.specs.declared.edges.Edge.{Edge}
use Rattle.solver.specs.declared.edges.Edges.{Edges}
use Rattle.solver.specs.declared.search.Found.{Found}
use Rattle.solver.specs.declared.constraints.Atom.{Atom}
use Rattle.solver.specs.declared.constraints.Atom.TheVariants.{Unknown, Written}

abbrev pub broken : (value parent by to : ℕ) → Broken
broken value parent by to = record { by = by; to = to; value = value; parent = parent }

module _ (below : ℕ → ℕ → Bool) (value parent : ℕ) where
  -- along one edge
  pub record IsOfEdge (es : List Edge) (b : Broken) : Type 0 where
    pub to : ℕ
    pub by : ℕ
    pub is : b ≡ broken value parent by to
    pub along : Contains es (edge by (Written to))
    pub not_below : below value to ≡ false

  one-only : (by : ℕ) (to : Atom) (b : Broken) → Contains (broken_by below value parent by to) b → IsOfEdge (edge by to ∷ []) b
  one-only by (Unknown u) b h = absurd (none_in_nil b h)
  one-only by (Written to) b h = go (below value to) refl
    where
      go : (t : Bool) → below value to ≡ t → IsOfEdge (edge by (Written to) ∷ []) b
      go true e = let k : Contains [] b = rw e at h in absurd (none_in_nil b k)
      go false e =
          let k : Contains (broken value parent by to ∷ []) b = rw e at h in
          ⊎_elim
          (λ is. record { to = to; by = by; is = sym is; along = Contains-first (edge by (Written to)) []; not_below = e })
          (λ no. absurd (none_in_nil b no))
          (Contains-cons_cases (broken value parent by to) [] b k)

  pub candidates-only : (es : List Edge) (b : Broken) → Contains (candidates below value parent es) b → IsOfEdge es b
  candidates-only [] b h = absurd (none_in_nil b h)
  candidates-only (e ∷ es) b h =
      ⊎_elim
      (λ k. let one = one-only e.by e.to b k in
      record {
        to = one.to;
        by = one.by;
        is = one.is;
        along = ⊎_elim (λ (is : e ≡ edge one.by (Written one.to)). subst (λ (x : Edge). Contains (e ∷ es) x) is (Contains-first e es)) (λ no. absurd (none_in_nil (edge one.by (Written one.to)) no))
            (Contains-cons_cases e [] (edge one.by (Written one.to)) one.along);
        not_below = one.not_below;
      })
      (λ k. let more = candidates-only es b k in
      record { to = more.to; by = more.by; is = more.is; along = Contains-later e es (edge more.by (Written more.to)) more.along; not_below = more.not_below })
      (Contains-append_cases (broken_by below value parent e.by e.to) (candidates below value parent es) b h)

  pub candidates-has : (es : List Edge) (by to : ℕ) → Contains es (edge by (Written to)) → below value to ≡ false → Contains (candidates below value parent es) (broken value parent by to)
  candidates-has [] by to h fails = absurd (none_in_nil (edge by (Written to)) h)
  candidates-has (e ∷ es) by to h fails =
      ⊎_elim
      (λ (is : e ≡ edge by (Written to)).
      subst (λ (x : Edge). Contains (broken_by below value parent x.by x.to ++ candidates below value parent es) (broken value parent by to)) (sym is)
      (rw fails (Contains-first (broken value parent by to) (candidates below value parent es))))
      (λ k. Contains-append_right (broken_by below value parent e.by e.to) (candidates below value parent es) (broken value parent by to) (candidates-has es by to k fails))
      (Contains-cons_cases e es (edge by (Written to)) h)

module _ (edges : Edges) (below : ℕ → ℕ → Bool) where
  pub found_candidates-only : (value k : ℕ) (found : List Found) (b : Broken) → Contains (found_candidates edges below value k found) b →
      (i : ℕ) × (i < length found) × Contains (candidates below value (suc (k + i)) (row_of edges (Unknown (get_or found i nothing_found).unknown))) b
  found_candidates-only value k [] b h = absurd (none_in_nil b h)
  found_candidates-only value k (f ∷ found) b h =
      ⊎_elim
      (λ here. (0, omega arith, subst (λ n. Contains (candidates below value (suc n) (row_of edges (Unknown f.unknown))) b) (sym (add-zero k)) here))
      (λ later. let more = found_candidates-only value (suc k) found b later in
      let e : suc (suc k + more.0) ≡ suc (k + suc more.0) = omega arith in
      (suc more.0, omega (arith, more.1), subst (λ n. Contains (candidates below value n (row_of edges (Unknown (get_or found more.0 nothing_found).unknown))) b) e more.2))
      (Contains-append_cases (candidates below value (suc k) (row_of edges (Unknown f.unknown))) (found_candidates edges below value (suc k) found) b h)

  pub found_candidates-has : (value k : ℕ) (found : List Found) (i : ℕ) (b : Broken) → i < length found →
      Contains (candidates below value (suc (k + i)) (row_of edges (Unknown (get_or found i nothing_found).unknown))) b → Contains (found_candidates edges below value k found) b
  found_candidates-has value k [] i b h in' = absurd (omega arith)
  found_candidates-has value k (f ∷ found) zero b h in' =
      Contains-append_left (candidates below value (suc k) (row_of edges (Unknown f.unknown))) (found_candidates edges below value (suc k) found) b
      (subst (λ n. Contains (candidates below value (suc n) (row_of edges (Unknown f.unknown))) b) (add-zero k) in')
  found_candidates-has value k (f ∷ found) (suc i) b h in' =
      let e : suc (k + suc i) ≡ suc (suc k + i) = omega arith in
      Contains-append_right (candidates below value (suc k) (row_of edges (Unknown f.unknown))) (found_candidates edges below value (suc k) found) b
      (found_candidates-has value (suc k) found i b (omega (arith, h))
      (subst (λ n. Contains (candidates below value n (row_of edges (Unknown (get_or found i nothing_found).unknown))) b) e in'))

  abbrev pub of_value : ℕ → List Found → List Broken
  of_value value found = candidates below value 0 (row_of edges (Written value)) ++ found_candidates edges below value 0 found

-- ---- the earliest
pub record IsFirst (cs : List Broken) (b : Broken) : Type 0 where
  pub one : Contains cs b
  pub first : (c : Broken) → Contains cs c → b.by ≤ c.by

-- of one and some others
earliest-some : (b0 : Broken) (cs : List Broken) (b : Broken) → earliest (Some b0) cs ≡ Some b → IsFirst (b0 ∷ cs) b
earliest-some b0 [] b e =
    let is : b0 ≡ b = ap (some_or b0) e in
    subst (λ (x : Broken). IsFirst (b0 ∷ []) x) is (record {
      one = Contains-first b0 [];
      first = λ c h. ⊎_elim (λ (same : b0 ≡ c). subst (λ (x : Broken). b0.by ≤ x.by) same (omega arith)) (λ no. absurd (none_in_nil c no)) (Contains-cons_cases b0 [] c h);
    })
  where
    some_or : Broken → Option Broken → Broken
    some_or d None = d
    some_or d (Some x) = x
earliest-some b0 (c ∷ cs) b e = go (nat_lt c.by b0.by) refl (earliest-some c cs b) (earliest-some b0 cs b)
  where
    go : (t : Bool) → nat_lt c.by b0.by ≡ t → (earliest (Some c) cs ≡ Some b → IsFirst (c ∷ cs) b) → (earliest (Some b0) cs ≡ Some b → IsFirst (b0 ∷ cs) b) → IsFirst (b0 ∷ (c ∷ cs)) b
    go true lt by_c by_b0 =
        let e' : earliest (Some c) cs ≡ Some b = rw lt at e in
        let rest = by_c e' in
        let less : c.by < b0.by = ltb-true c.by b0.by lt in
        let before_c : b.by ≤ c.by = rest.first c (Contains-first c cs) in
        record {
          one = Contains-later b0 (c ∷ cs) b rest.one;
          first = λ d h. ⊎_elim (λ (same : b0 ≡ d). subst (λ (x : Broken). b.by ≤ x.by) same (omega (arith, less, before_c))) (λ k. rest.first d k) (Contains-cons_cases b0 (c ∷ cs) d h);
        }
    go false ge by_c by_b0 =
        let e' : earliest (Some b0) cs ≡ Some b = rw ge at e in
        let rest = by_b0 e' in
        let not_less : b0.by ≤ c.by = ltb-false c.by b0.by ge in
        let before_b0 : b.by ≤ b0.by = rest.first b0 (Contains-first b0 cs) in
        record {
          one = ⊎_elim (λ (same : b0 ≡ b). subst (λ (x : Broken). Contains (b0 ∷ (c ∷ cs)) x) same (Contains-first b0 (c ∷ cs))) (λ k. Contains-later b0 (c ∷ cs) b (Contains-later c cs b k))
              (Contains-cons_cases b0 cs b rest.one);
          first = λ d h. ⊎_elim (λ (same : b0 ≡ d). subst (λ (x : Broken). b.by ≤ x.by) same before_b0)
              (λ k. ⊎_elim (λ (same : c ≡ d). subst (λ (x : Broken). b.by ≤ x.by) same (omega (arith, before_b0, not_less))) (λ k'. rest.first d (Contains-later b0 cs d k')) (Contains-cons_cases c cs d k))
              (Contains-cons_cases b0 (c ∷ cs) d h);
        }

pub earliest-first : (cs : List Broken) (b : Broken) → earliest None cs ≡ Some b → IsFirst cs b
earliest-first [] b e = absurd (cc)
earliest-first (c ∷ cs) b e = earliest-some c cs b e

earliest-stays : (b0 : Broken) (cs : List Broken) → earliest (Some b0) cs ≡ None → ⊥
earliest-stays b0 [] e = cc
earliest-stays b0 (c ∷ cs) e = go (nat_lt c.by b0.by) refl (earliest-stays c cs) (earliest-stays b0 cs)
  where
    go : (t : Bool) → nat_lt c.by b0.by ≡ t → (earliest (Some c) cs ≡ None → ⊥) → (earliest (Some b0) cs ≡ None → ⊥) → ⊥
    go true lt by_c by_b0 = let e' : earliest (Some c) cs ≡ None = rw lt at e in by_c e'
    go false ge by_c by_b0 = let e' : earliest (Some b0) cs ≡ None = rw ge at e in by_b0 e'

pub earliest-none : (cs : List Broken) → earliest None cs ≡ None → (b : Broken) → Contains cs b → ⊥
earliest-none [] e b h = none_in_nil b h
earliest-none (c ∷ cs) e b h = earliest-stays c cs e
