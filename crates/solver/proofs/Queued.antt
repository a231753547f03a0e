-- Constraints that wait: after one more was asked to wait, after the first one was taken, and that all wait at first.
use Rattle.std.proofs.Common.{◌≡◌, refl, sym, ap, ◌∙◌, subst, ℕ, suc, ◌<◌, ◌≤◌, ◌+◌, length, set, get_or, take, List, [], ◌∷◌, ◌++◌, Bool, true, false, arith, nat_eq, ◌⊎◌, inl, inr, ⊎_elim, None, Some}
use Rattle.std.specs.Prelude.{Contains, IsTrue, if◌then◌else◌}
use Rattle.std.proofs.lemmas.Bool.{eqb-true, eq-eqb, or_left, or_right, or_cases}
use Rattle.std.proofs.lemmas.List.{length-set, length_push, take_more, length-take-le}
use Rattle.std.proofs.lemmas.List.Elements.{Contains-append_cases, Contains-append_left, Contains-append_right, Contains-get_or}
use Rattle.std.proofs.lemmas.Option.{same_Some, slice_get-get_or}
use Rattle.common.proofs.Elements.{none_in_nil, Contains-cons_cases, Contains-first}
use Rattle.solver.specs.Looks.{is_unknown, looked_at, one}
use Rattle.solver.specs.Queue.{Added, IsNext, IsSeeded, none, some, RightIsUnknown, Seeds, flag}
use Rattle.solver.specs.Reach.{edge}
use Rattle.solver.specs.declared.edges.Edge.{Edge}
use Rattle.solver.specs.declared.constraints.Atom.{Atom}
use Rattle.solver.specs.declared.constraints.Atom.TheVariants.{Unknown, Written}
use Rattle.solver.specs.declared.constraints.Constraint.{Constraint}
use Rattle.solver.proofs.Comparing.{slice_get-at}
use Rattle.solver.proofs.Bits.{has-set, set-same, size, size-set}

-- the order after a constraint was asked to wait
abbrev pub queued : List Bool → List ℕ → ℕ → List ℕ
queued waits order by = if flag waits by then order else (order ++ by ∷ [])

-- ---- one was asked to wait
module _ (waits : List Bool) (order : List ℕ) (by : ℕ) (h : by < length waits) where
  pub put-kept : (i : ℕ) → IsTrue (flag waits i) → IsTrue (flag (set waits by true) i)
  put-kept i t = has-set waits by i h ∙ or_right (nat_eq i by) (flag waits i) t

  pub put-marked : IsTrue (flag (set waits by true) by)
  put-marked = has-set waits by by h ∙ or_left (nat_eq by by) (flag waits by) (eq-eqb by by refl)

  pub put-cases : (i : ℕ) → IsTrue (flag (set waits by true) i) → IsTrue (flag waits i) ⊎ (i ≡ by)
  put-cases i t = ⊎_elim (λ e. inr (eqb-true i by e)) (λ old. inl old) (or_cases (nat_eq i by) (flag waits i) (sym (has-set waits by i h) ∙ t))

  pub put-listed : (i : ℕ) → IsTrue (flag (set waits by true) i) → IsTrue (flag waits i) ⊎ Contains (queued waits order by) i
  put-listed i t = ⊎_elim (λ old. inl old) (λ is. go (flag waits by) refl is) (put-cases i t)
    where
      go : (t : Bool) → flag waits by ≡ t → i ≡ by → IsTrue (flag waits i) ⊎ Contains (queued waits order by) i
      go true e is = inl (subst (λ j. IsTrue (flag waits j)) (sym is) e)
      go false e is = inr (rw e (Contains-append_right order (by ∷ []) i (subst (λ j. Contains (by ∷ []) j) (sym is) (Contains-first by []))))

  pub put-waiting : (i : ℕ) → Contains order i → Contains (queued waits order by) i
  put-waiting i c = go (flag waits by) refl
    where
      go : (t : Bool) → flag waits by ≡ t → Contains (queued waits order by) i
      go true e = rw e c
      go false e = rw e (Contains-append_left order (by ∷ []) i c)

  pub put-only : (i : ℕ) → Contains (queued waits order by) i → Contains order i ⊎ (i ≡ by)
  put-only i c = go (flag waits by) refl
    where
      go : (t : Bool) → flag waits by ≡ t → Contains order i ⊎ (i ≡ by)
      go true e = let k : Contains order i = rw e at c in inl k
      go false e =
          let k : Contains (order ++ by ∷ []) i = rw e at c in
          ⊎_elim (λ old. inl old) (λ new. ⊎_elim (λ is. inr (sym is)) (λ no. absurd (none_in_nil i no)) (Contains-cons_cases by [] i new)) (Contains-append_cases order (by ∷ []) i k)

  pub put-length : (length order ≤ length (queued waits order by)) × (length (queued waits order by) ≤ length order + 1)
  put-length = go (flag waits by) refl
    where
      go : (t : Bool) → flag waits by ≡ t → (length order ≤ length (queued waits order by)) × (length (queued waits order by) ≤ length order + 1)
      go true e = rw e (omega arith, omega arith)
      go false e = let len = length_push order by in rw e (omega (arith, len), omega (arith, len))

  pub put-sized : size waits ≡ length order → size (set waits by true) ≡ length (queued waits order by)
  put-sized is = go (flag waits by) refl
    where
      go : (t : Bool) → flag waits by ≡ t → size (set waits by true) ≡ length (queued waits order by)
      go true e = rw e (ap size (set-same waits by e) ∙ is)
      go false e = let len = length_push order by in let more = size-set waits by h e in rw e (omega (arith, len, more, is))

-- ---- the constraints of edges were asked to wait
pub added-none : (waits : List Bool) (order : List ℕ) → Added [] waits order waits order
added-none waits order = record {
  count = refl;
  kept = λ i t. t;
  marked = λ i u c. absurd (none_in_nil (edge i (Unknown u)) c);
  listed = λ i t. inl t;
  waiting = λ i c. c;
  only = λ i c. inl c;
  at_least = omega arith;
  at_most = omega arith;
}

-- of an edge to a written element none was
pub added-written : (by n : ℕ) (waits : List Bool) (order : List ℕ) → Added (edge by (Written n) ∷ []) waits order waits order
added-written by n waits order = record {
  count = refl;
  kept = λ i t. t;
  marked = λ i u c. ⊎_elim
      (λ (is : edge by (Written n) ≡ edge i (Unknown u)). absurd (apart (ap (λ (x : Edge). is_unknown x.to) is)))
      (λ no. absurd (none_in_nil (edge i (Unknown u)) no))
      (Contains-cons_cases (edge by (Written n)) [] (edge i (Unknown u)) c);
  listed = λ i t. inl t;
  waiting = λ i c. c;
  only = λ i c. inl c;
  at_least = omega arith;
  at_most = omega arith;
}
  where
    apart : false ≡ true → ⊥
    apart e = absurd (cc)

pub added-one : (by u : ℕ) (waits : List Bool) (order : List ℕ) (waits' : List Bool) (order' : List ℕ) → by < length waits → waits' ≡ set waits by true → order' ≡ queued waits order by →
    Added (edge by (Unknown u) ∷ []) waits order waits' order'
added-one by u waits order waits' order' h w o = rw (w, o) (record {
  count = length-set waits by true;
  kept = put-kept waits order by h;
  marked = λ i v c. ⊎_elim
      (λ (is : edge by (Unknown u) ≡ edge i (Unknown v)). subst (λ j. IsTrue (flag (set waits by true) j)) (ap (λ (x : Edge). x.by) is) (put-marked waits order by h))
      (λ no. absurd (none_in_nil (edge i (Unknown v)) no))
      (Contains-cons_cases (edge by (Unknown u)) [] (edge i (Unknown v)) c);
  listed = put-listed waits order by h;
  waiting = put-waiting waits order by h;
  only = λ i c. ⊎_elim (λ old. inl old) (λ is. inr (u, subst (λ j. Contains (edge by (Unknown u) ∷ []) (edge j (Unknown u))) (sym is) (Contains-first (edge by (Unknown u)) []))) (put-only waits order by h i c);
  at_least = (put-length waits order by h).0;
  at_most = (put-length waits order by h).1;
})

-- the step of a loop over edges
pub added-step : (edges : List Edge) (i : ℕ) (d : Edge) (waits : List Bool) (order : List ℕ) (waits' : List Bool) (order' : List ℕ) (waits'' : List Bool) (order'' : List ℕ) → i < length edges →
    Added (take i edges) waits order waits' order' → Added (get_or edges i d ∷ []) waits' order' waits'' order'' → Added (take (i + 1) edges) waits order waits'' order''
added-step edges i d waits order waits' order' waits'' order'' h a b =
    let len = length-take-le i edges (omega (arith, h)) in
    let len' = length_push (take i edges) (get_or edges i d) in
    let len'' : length (get_or edges i d ∷ []) ≡ 1 = refl in
    let last = get_or edges i d in
    let early = take i edges in
    subst (λ es. Added es waits order waits'' order'') (sym (take_more edges i d h)) (record {
      count = b.count ∙ a.count;
      kept = λ k t. b.kept k (a.kept k t);
      marked = λ k u c. ⊎_elim (λ before. b.kept k (a.marked k u before)) (λ now. b.marked k u now) (Contains-append_cases early (last ∷ []) (edge k (Unknown u)) c);
      listed = λ k t. ⊎_elim (λ before. ⊎_elim (λ first. inl first) (λ there. inr (b.waiting k there)) (a.listed k before)) (λ now. inr now) (b.listed k t);
      waiting = λ k c. b.waiting k (a.waiting k c);
      only = λ k c. ⊎_elim
          (λ before. ⊎_elim (λ first. inl first) (λ of. inr (of.0, Contains-append_left early (last ∷ []) (edge k (Unknown of.0)) of.1)) (a.only k before))
          (λ of. inr (of.0, Contains-append_right early (last ∷ []) (edge k (Unknown of.0)) of.1))
          (b.only k c);
      at_least = let x = a.at_least in let y = b.at_least in omega (arith, x, y);
      at_most = let x = a.at_most in let y = b.at_most in omega (arith, x, y, len, len', len'');
    })

-- one edge of many
pub one-edge : (edges : List Edge) (i : ℕ) (d : Edge) (bound bound' : ℕ) → i < length edges → ((j u : ℕ) → Contains edges (edge j (Unknown u)) → j < bound) → bound' ≡ bound →
    (j u : ℕ) → Contains (get_or edges i d ∷ []) (edge j (Unknown u)) → j < bound'
one-edge edges i d bound bound' h inside e j u c =
    ⊎_elim (λ (is : get_or edges i d ≡ edge j (Unknown u)). subst (λ n. j < n) (sym e) (inside j u (subst (λ (x : Edge). Contains edges x) is (Contains-get_or edges i d h))))
    (λ no. absurd (none_in_nil (edge j (Unknown u)) no)) (Contains-cons_cases (get_or edges i d) [] (edge j (Unknown u)) c)

-- the first that waited
pub next-some : (waits : List Bool) (order : List ℕ) (waits' : List Bool) (order' : List ℕ) (i : ℕ) → IsNext waits order waits' order' (Some i) → (order ≡ i ∷ order') × (waits' ≡ set waits i false)
next-some waits order _ _ _ (some i rest e) = (e, refl)

pub next-none : (waits : List Bool) (order : List ℕ) (waits' : List Bool) (order' : List ℕ) → IsNext waits order waits' order' None → order ≡ []
next-none waits order _ _ (none e) = e

-- ---- whether the right side is an unknown
pub right-unknown : {T : Type 0} (cs : List (Constraint T)) (i : ℕ) (d : Constraint T) (u : ℕ) → i < length cs → (get_or cs i d).right ≡ Unknown u → RightIsUnknown cs i
right-unknown cs i d u h is = record { constraint = get_or cs i d; at = slice_get-get_or cs i d h; unknown = u; right = is }

pub right-written : {T : Type 0} (cs : List (Constraint T)) (i : ℕ) (d : Constraint T) (n : ℕ) → (get_or cs i d).right ≡ Written n → RightIsUnknown cs i → ⊥
right-written {T} cs i d n is r =
    let here : get_or cs i d ≡ r.constraint = slice_get-at cs i r.constraint d r.at in
    apart (sym (ap (λ (x : Constraint T). is_unknown x.right) here ∙ ap is_unknown r.right) ∙ ap is_unknown is)
  where
    apart : true ≡ false → ⊥
    apart e = absurd (cc)

-- ---- at first
module _ {T : Type 0} (cs : List (Constraint T)) where
  pub seeded-none : (waits : List Bool) → length waits ≡ length cs → ((i : ℕ) → flag waits i ≡ false) → size waits ≡ 0 → IsSeeded cs waits []
  seeded-none waits e never zero_is = record {
    count = e;
    counted = zero_is;
    listed = λ i t. let no : true ≡ false = sym t ∙ never i in absurd (cc);
    marked = λ i t. let no : true ≡ false = sym t ∙ never i in absurd (cc);
    rights = λ i c. absurd (none_in_nil i c);
  }

  pub seeded-more : (waits : List Bool) (order : List ℕ) (by : ℕ) (waits' : List Bool) (order' : List ℕ) → by < length waits → RightIsUnknown cs by → IsSeeded cs waits order →
      waits' ≡ set waits by true → order' ≡ queued waits order by → IsSeeded cs waits' order'
  seeded-more waits order by waits' order' h right s w o = rw (w, o) (record {
    count = length-set waits by true ∙ s.count;
    counted = put-sized waits order by h s.counted;
    listed = λ i t. ⊎_elim (λ old. put-waiting waits order by h i (s.listed i old)) (λ there. there) (put-listed waits order by h i t);
    marked = λ i t. ⊎_elim (λ old. s.marked i old) (λ is. subst (λ j. RightIsUnknown cs j) (sym is) right) (put-cases waits order by h i t);
    rights = λ i c. ⊎_elim (λ old. s.rights i old) (λ is. subst (λ j. RightIsUnknown cs j) (sym is) right) (put-only waits order by h i c);
  })

  pub seeds-one : (waits : List Bool) (by : ℕ) (waits' : List Bool) → by < length waits → waits' ≡ set waits by true → Seeds cs by waits waits'
  seeds-one waits by waits' h w = rw w (record { kept = put-kept waits [] by h; marked = λ r. put-marked waits [] by h })

  pub seeds-none : (waits : List Bool) (by : ℕ) → (RightIsUnknown cs by → ⊥) → Seeds cs by waits waits
  seeds-none waits by never = record { kept = λ i t. t; marked = λ r. absurd (never r) }

-- this many flags are set as constraints are looked at
pub seeded-count : {T : Type 0} (cs : List (Constraint T)) (waits : List Bool) → length waits ≡ length cs → ((i : ℕ) → IsTrue (flag waits i) → RightIsUnknown cs i) →
    ((i : ℕ) → RightIsUnknown cs i → IsTrue (flag waits i)) → size waits ≡ looked_at cs
seeded-count [] [] e to from = refl
seeded-count [] (b ∷ waits) e to from = absurd (omega (arith, e))
seeded-count (c ∷ cs) [] e to from = absurd (omega (arith, e))
seeded-count {T} (c ∷ cs) (b ∷ waits) e to from =
    let rest = seeded-count cs waits (omega (arith, e)) (λ i t. earlier i (to (suc i) t)) (λ i r. from (suc i) (later i r)) in
    let first = go b (to 0) (λ r. from 0 r) in
    omega (arith, rest, first)
  where
    earlier : (i : ℕ) → RightIsUnknown (c ∷ cs) (suc i) → RightIsUnknown cs i
    earlier i r = record { constraint = r.constraint; at = r.at; unknown = r.unknown; right = r.right }

    later : (i : ℕ) → RightIsUnknown cs i → RightIsUnknown (c ∷ cs) (suc i)
    later i r = record { constraint = r.constraint; at = r.at; unknown = r.unknown; right = r.right }

    written_one : (a : Atom) → c.right ≡ a → (RightIsUnknown (c ∷ cs) 0 → ⊥) → one (is_unknown a) ≡ 0
    written_one (Written n) is never = refl
    written_one (Unknown u) is never = absurd (never (record { constraint = c; at = refl; unknown = u; right = is }))

    unknown_one : (r : RightIsUnknown (c ∷ cs) 0) → one (is_unknown c.right) ≡ 1
    unknown_one r =
        let here : c ≡ r.constraint = same_Some c r.constraint r.at in
        ap (λ (x : Constraint T). one (is_unknown x.right)) here ∙ ap (λ a. one (is_unknown a)) r.right

    go : (t : Bool) → (IsTrue t → RightIsUnknown (c ∷ cs) 0) → (RightIsUnknown (c ∷ cs) 0 → IsTrue t) → one t ≡ one (is_unknown c.right)
    go true f g = sym (unknown_one (f refl))
    go false f g = sym (written_one c.right refl (λ r. let no : false ≡ true = g r in absurd (cc)))

pub looked-at_most : {T : Type 0} (cs : List (Constraint T)) → looked_at cs ≤ length cs
looked-at_most [] = omega arith
looked-at_most (c ∷ cs) = let rest = looked-at_most cs in go (is_unknown c.right) rest
  where
    go : (t : Bool) → looked_at cs ≤ length cs → one t + looked_at cs ≤ suc (length cs)
    go true rest = omega (arith, rest)
    go false rest = omega (arith, rest)
