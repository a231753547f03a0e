-- A search along edges: what stays true while more is found, and that in the end all is found.
use Rattle.std.proofs.Common.{◌≡◌, refl, sym, ap, ◌∙◌, subst, ℕ, zero, suc, ◌<◌, ◌≤◌, ◌+◌, length, set, get_or, List, [], ◌∷◌, ◌++◌, Bool, true, false, arith, take, add-one, ◌⊎◌, inl, inr, ⊎_elim, get_or-set_other, get_or-set_same, length-set, replicate, nat_eq}
use Rattle.std.specs.Prelude.{if◌then◌else◌, IsTrue, Contains}
use Rattle.std.proofs.lemmas.Bool.{eqb-true, eqb-false}
use Rattle.std.proofs.lemmas.List.{get_or_read, length_push, length-replicate, take_more}
use Rattle.std.proofs.lemmas.List.Elements.{Contains-append_cases, Contains-get_or}
use Rattle.common.proofs.Elements.{none_in_nil, Contains-cons_cases, Contains-first}
use Rattle.solver.specs.EdgeRows.{row_at}
use Rattle.solver.specs.Reach.{AllMarked, CameFrom, Grows, Has, IsStep, IsTrace, IsTrail, LeadsTo, ReachesBy, LeadInside, AllLeadInside, directly, earlier, edge, itself, more, nothing_found, onward, row_of, same}
use Rattle.solver.specs.declared.edges.Edge.{Edge}
use Rattle.solver.specs.declared.edges.Edges.{Edges}
use Rattle.solver.specs.declared.search.Found.{Found}
use Rattle.solver.specs.declared.constraints.Atom.{Atom}
use Rattle.solver.specs.declared.constraints.Atom.TheVariants.{Unknown, Written}
use Rattle.common.proofs.Cases.{last_cases}

-- ---- marks
abbrev pub marks_count : List Bool → ℕ
marks_count [] = 0
marks_count (true ∷ marks) = suc (marks_count marks)
marks_count (false ∷ marks) = marks_count marks

pub marks_count-le : (marks : List Bool) → marks_count marks ≤ length marks
marks_count-le [] = omega arith
marks_count-le (true ∷ marks) = omega (arith, marks_count-le marks)
marks_count-le (false ∷ marks) = omega (arith, marks_count-le marks)

pub marks_count-more : (marks : List Bool) (u : ℕ) → u < length marks → get_or marks u false ≡ false → marks_count (set marks u true) ≡ suc (marks_count marks)
marks_count-more [] u h e = absurd (omega arith)
marks_count-more (true ∷ marks) zero h e = absurd (cc)
marks_count-more (false ∷ marks) zero h e = refl
marks_count-more (true ∷ marks) (suc u) h e = ap suc (marks_count-more marks u (omega (arith, h)) e)
marks_count-more (false ∷ marks) (suc u) h e = marks_count-more marks u (omega (arith, h)) e

pub marks_count-none : (n : ℕ) → marks_count (replicate n false) ≡ 0
marks_count-none zero = refl
marks_count-none (suc n) = marks_count-none n

pub none_marked : (n u : ℕ) → get_or (replicate n false) u false ≡ false
none_marked zero u = refl
none_marked (suc n) zero = refl
none_marked (suc n) (suc u) = none_marked n u

pub set-already : (marks : List Bool) (u : ℕ) → get_or marks u false ≡ true → marks ≡ set marks u true
set-already [] u e = refl
set-already (true ∷ marks) zero e = refl
set-already (false ∷ marks) zero e = absurd (cc)
set-already (b ∷ marks) (suc u) e = ap (λ x. b ∷ x) (set-already marks u e)

kept_marked : (marks : List Bool) (u w : ℕ) → u < length marks → IsTrue (get_or marks w false) → IsTrue (get_or (set marks u true) w false)
kept_marked [] u w h e = e
kept_marked (b ∷ marks) zero zero h e = refl
kept_marked (b ∷ marks) zero (suc w) h e = e
kept_marked (b ∷ marks) (suc u) zero h e = e
kept_marked (b ∷ marks) (suc u) (suc w) h e = kept_marked marks u w (omega (arith, h)) e

new_marked : (marks : List Bool) (u : ℕ) → u < length marks → IsTrue (get_or (set marks u true) u false)
new_marked marks u h = get_or-set_same marks u true false h

marked-cases : (marks : List Bool) (u w : ℕ) → IsTrue (get_or (set marks u true) w false) → (w ≡ u) ⊎ IsTrue (get_or marks w false)
marked-cases marks u w e = go (nat_eq w u) refl
  where
    go : (t : Bool) → nat_eq w u ≡ t → (w ≡ u) ⊎ IsTrue (get_or marks w false)
    go true is = inl (eqb-true w u is)
    go false is = inr (sym (get_or-set_other marks u w true false (eqb-false w u is)) ∙ e)

-- ---- what was found stays at its index
at-push : (found : List Found) (x : Found) (k : ℕ) → k < length found → get_or (found ++ x ∷ []) k nothing_found ≡ get_or found k nothing_found
at-push [] x k h = absurd (omega arith)
at-push (f ∷ found) x zero h = refl
at-push (f ∷ found) x (suc k) h = at-push found x k (omega (arith, h))

last-push : (found : List Found) (x : Found) → get_or (found ++ x ∷ []) (length found) nothing_found ≡ x
last-push [] x = refl
last-push (f ∷ found) x = last-push found x

module _ {edges : List Edge} {parent : ℕ} where
  pub grows-longer : {marks : List Bool} {found : List Found} {marks' : List Bool} {found' : List Found} → Grows edges parent marks found marks' found' → length found ≤ length found'
  grows-longer same = omega arith
  grows-longer (more marks' found' by u before h inside e) =
      omega (arith, grows-longer before, length_push found' (record { unknown = u; by = by; parent = parent }))

  pub grows-length : {marks : List Bool} {found : List Found} {marks' : List Bool} {found' : List Found} → Grows edges parent marks found marks' found' → length marks' ≡ length marks
  grows-length same = refl
  grows-length (more marks' found' by u before h inside e) = length-set marks' u true ∙ grows-length before

  pub grows-count : {marks : List Bool} {found : List Found} {marks' : List Bool} {found' : List Found} → Grows edges parent marks found marks' found' →
      marks_count marks ≡ length found → marks_count marks' ≡ length found'
  grows-count same c = c
  grows-count (more marks' found' by u before h inside e) c =
      marks_count-more marks' u inside e ∙ (ap suc (grows-count before c) ∙ sym (length_push found' (record { unknown = u; by = by; parent = parent }) ∙ add-one (length found')))

  pub grows-marked : {marks : List Bool} {found : List Found} {marks' : List Bool} {found' : List Found} → Grows edges parent marks found marks' found' →
      (w : ℕ) → IsTrue (get_or marks w false) → IsTrue (get_or marks' w false)
  grows-marked same w m = m
  grows-marked (more marks' found' by u before h inside e) w m = kept_marked marks' u w inside (grows-marked before w m)

  pub grows-at : {marks : List Bool} {found : List Found} {marks' : List Bool} {found' : List Found} → Grows edges parent marks found marks' found' →
      (k : ℕ) → k < length found → get_or found' k nothing_found ≡ get_or found k nothing_found
  grows-at same k h = refl
  grows-at (more marks' found' by u before _ inside e) k h =
      at-push found' (record { unknown = u; by = by; parent = parent }) k (omega (arith, h, grows-longer before)) ∙ grows-at before k h

  pub grows-named : {marks : List Bool} {found : List Found} {marks' : List Bool} {found' : List Found} → Grows edges parent marks found marks' found' →
      ((w : ℕ) → IsTrue (get_or marks w false) → Has found w) → (w : ℕ) → IsTrue (get_or marks' w false) → Has found' w
  grows-named same named w m = named w m
  grows-named (more marks' found' by u before _ inside e) named w m =
      let x : Found = record { unknown = u; by = by; parent = parent } in
      ⊎_elim
      (λ is. (length found', omega (arith, length_push found' x), ap (λ f. f.unknown) (last-push found' x) ∙ sym is))
      (λ old. let has = grows-named before named w old in
      (has.0, omega (arith, has.1, length_push found' x), ap (λ f. f.unknown) (at-push found' x has.0 has.1) ∙ has.2))
      (marked-cases marks' u w m)

  -- one more
  pub grows-through : (last : Edge) → Contains edges last → {marks : List Bool} {found : List Found} {marks' : List Bool} {found' : List Found} {marks'' : List Bool} {found'' : List Found} →
      Grows edges parent marks found marks' found' → Grows (last ∷ []) parent marks' found' marks'' found'' → Grows edges parent marks found marks'' found''
  grows-through last h before same = before
  grows-through last h before (more marks'' found'' by u mid k inside e) =
      more marks'' found'' by u (grows-through last h before mid)
      (⊎_elim (λ is. subst (λ x. Contains edges x) is h) (λ no. absurd (none_in_nil (edge by (Unknown u)) no)) (Contains-cons_cases last [] (edge by (Unknown u)) k))
      inside e

-- the step of one edge
module _ (by u parent : ℕ) (marks : List Bool) (found : List Found) (marks' : List Bool) (found' : List Found) (inside : u < length marks)
    (marks_is : marks' ≡ set marks u true)
    (found_is : found' ≡ (if get_or marks u false then found else (found ++ record { unknown = u; by = by; parent = parent } ∷ []))) where
  pub one-grows : Grows (edge by (Unknown u) ∷ []) parent marks found marks' found'
  one-grows = go (get_or marks u false) refl
    where
      go : (t : Bool) → get_or marks u false ≡ t → Grows (edge by (Unknown u) ∷ []) parent marks found marks' found'
      go true e =
          let found_same : found' ≡ found = rw e at found_is in
          let marks_same : marks' ≡ marks = marks_is ∙ sym (set-already marks u e) in
          rw (found_same, marks_same) same
      go false e =
          let grown : found' ≡ found ++ record { unknown = u; by = by; parent = parent } ∷ [] = rw e at found_is in
          rw (grown, marks_is) (more marks found by u same (Contains-first (edge by (Unknown u)) []) inside e)

  pub one-marked : AllMarked (edge by (Unknown u) ∷ []) marks'
  one-marked b w h =
      ⊎_elim
      (λ is. let same_unknown : u ≡ w = ap (λ e. number e.to) is in
      subst (λ x. IsTrue (get_or marks' x false)) same_unknown (subst (λ m. IsTrue (get_or m u false)) (sym marks_is) (new_marked marks u inside)))
      (λ no. absurd (none_in_nil (edge b (Unknown w)) no))
      (Contains-cons_cases (edge by (Unknown u)) [] (edge b (Unknown w)) h)
    where
      number : Atom → ℕ
      number (Written n) = n
      number (Unknown n) = n

-- the step of a loop over edges
pub all_marked-step : (edges : List Edge) (i : ℕ) (d : Edge) (marks marks' : List Bool) → i < length edges → AllMarked (take i edges) marks →
    ((w : ℕ) → IsTrue (get_or marks w false) → IsTrue (get_or marks' w false)) → AllMarked (get_or edges i d ∷ []) marks' → AllMarked (take (i + 1) edges) marks'
all_marked-step edges i d marks marks' h before kept last by u in' =
    ⊎_elim (λ k. kept u (before by u k)) (λ k. last by u k)
    (Contains-append_cases (take i edges) (get_or edges i d ∷ []) (edge by (Unknown u))
    (subst (λ xs. Contains xs (edge by (Unknown u))) (take_more edges i d h) in'))

pub one-inside : (edges : List Edge) (i : ℕ) (d : Edge) (count count' : ℕ) → i < length edges → LeadInside count edges → count' ≡ count → LeadInside count' (get_or edges i d ∷ [])
one-inside edges i d count count' h inside same_count by u in' =
    subst (λ n. u < n) (sym same_count)
    (inside by u (⊎_elim (λ is. subst (λ x. Contains edges x) is (Contains-get_or edges i d h)) (λ no. absurd (none_in_nil (edge by (Unknown u)) no))
    (Contains-cons_cases (get_or edges i d) [] (edge by (Unknown u)) in')))

-- ---- the trail
came-kept : {n : ℕ} {found found' : List Found} {b b' parent : ℕ} {from : Atom} → ((k : ℕ) → k < length found → get_or found' k nothing_found ≡ get_or found k nothing_found) →
    b ≤ length found → b ≤ b' → CameFrom n found b parent from → CameFrom n found' b' parent from
came-kept at h le itself = itself
came-kept at h le (earlier p u before e) = earlier p u (omega (arith, before, le)) (ap (λ f. f.unknown) (at p (omega (arith, before, h))) ∙ e)

step-kept : (edges : Edges) (n : ℕ) (found found' : List Found) (k : ℕ) → ((k : ℕ) → k < length found → get_or found' k nothing_found ≡ get_or found k nothing_found) →
    k < length found → IsStep edges n found k → IsStep edges n found' k
step-kept edges n found found' k at h step =
    let e : get_or found k nothing_found ≡ get_or found' k nothing_found = sym (at k h) in
    record {
      from = step.from;
      came = subst (λ (x : Found). CameFrom n found' k x.parent step.from) e (came-kept at (omega (arith, h)) (omega arith) step.came);
      leads = subst (λ (x : Found). LeadsTo edges step.from x.by (Unknown x.unknown)) e step.leads;
    }

trail-push : (edges : Edges) (n : ℕ) (found : List Found) (x : Found) (from : Atom) → IsTrail edges n found → CameFrom n found (length found) x.parent from →
    LeadsTo edges from x.by (Unknown x.unknown) → IsTrail edges n (found ++ x ∷ [])
trail-push edges n found x from trail came leads k h =
    let at : (k : ℕ) → k < length found → get_or (found ++ x ∷ []) k nothing_found ≡ get_or found k nothing_found = λ k h. at-push found x k h in
    ⊎_elim
    (λ (before : k < length found). step-kept edges n found (found ++ x ∷ []) k at before (trail k before))
    (λ (last : k ≡ length found).
    let e : x ≡ get_or (found ++ x ∷ []) k nothing_found = sym (ap (λ j. get_or (found ++ x ∷ []) j nothing_found) last ∙ last-push found x) in
    record {
      from = from;
      came = subst (λ (y : Found). CameFrom n (found ++ x ∷ []) k y.parent from) e (came-kept at (omega arith) (omega (arith, last)) came);
      leads = subst (λ (y : Found). LeadsTo edges from y.by (Unknown y.unknown)) e leads;
    })
    (last_cases k (length found) (omega (arith, h, length_push found x)))

grows-trail : (edges : Edges) (n : ℕ) (row : List Edge) (parent : ℕ) (marks : List Bool) (found : List Found) (marks' : List Bool) (found' : List Found) (from : Atom) →
    Grows row parent marks found marks' found' → CameFrom n found (length found) parent from → ((by u : ℕ) → Contains row (edge by (Unknown u)) → LeadsTo edges from by (Unknown u)) →
    IsTrail edges n found → IsTrail edges n found'
grows-trail edges n row parent marks found _ _ from same came leads trail = trail
grows-trail edges n row parent marks found _ _ from (more marks' found' by u before h inside e) came leads trail =
    trail-push edges n found' (record { unknown = u; by = by; parent = parent }) from (grows-trail edges n row parent marks found marks' found' from before came leads trail)
    (came-kept (λ k h. grows-at before k h) (omega arith) (grows-longer before) came) (leads by u h)

pub found-inside : (edges : Edges) (n : ℕ) (found : List Found) (k : ℕ) → IsTrail edges n found → AllLeadInside edges → k < length found →
    (get_or found k nothing_found).unknown < length edges.unknown
found-inside edges n found k trail inside h =
    let step = trail k h in inside step.from (get_or found k nothing_found).by (get_or found k nothing_found).unknown step.leads

-- what was read at an index, and the row that was read for it
pub next-inside : (edges : Edges) (n : ℕ) (found : List Found) (next : ℕ) (x : Found) → IsTrail edges n found → AllLeadInside edges → next < length found →
    x ≡ get_or found next x → x.unknown < length edges.unknown
next-inside edges n found next x trail inside h is =
    subst (λ (f : Found). f.unknown < length edges.unknown) (sym (get_or_read found next x h is nothing_found)) (found-inside edges n found next trail inside h)

pub next-row : (edges : Edges) (n : ℕ) (found : List Found) (next : ℕ) (x : Found) (row : List Edge) → IsTrail edges n found → AllLeadInside edges → next < length found →
    x ≡ get_or found next x → row ≡ row_at edges.unknown x.unknown → row ≡ row_of edges (Unknown (get_or found next nothing_found).unknown)
next-row edges n found next x row trail inside h is row_is =
    row_is
    ∙ ap (λ (f : Found). row_of edges (Unknown f.unknown)) (get_or_read found next x h is nothing_found)

-- ---- the whole search, so far
pub record Searched (edges : Edges) (n : ℕ) (marks : List Bool) (found : List Found) (next : ℕ) : Type 0 where
  pub inside : length marks ≡ length edges.unknown
  pub counted : marks_count marks ≡ length found
  pub named : (w : ℕ) → IsTrue (get_or marks w false) → Has found w
  pub trail : IsTrail edges n found
  pub first : AllMarked (row_of edges (Written n)) marks
  pub later : (p : ℕ) → p < next → AllMarked (row_of edges (Unknown (get_or found p nothing_found).unknown)) marks
  pub reached : next ≤ length found

pub searched-start : (edges : Edges) (n : ℕ) (marks : List Bool) (found : List Found) (count : ℕ) (row : List Edge) (old : List Bool) (none : List Found) →
    count ≡ length edges.unknown → row ≡ row_of edges (Written n) → old ≡ replicate count false → none ≡ [] →
    Grows row 0 old none marks found → AllMarked row marks → Searched edges n marks found 0
searched-start edges n marks found count row old none is row_is old_is none_is any_grows any_marked =
    let grows : Grows (row_of edges (Written n)) 0 (replicate count false) [] marks found =
    subst (λ r. Grows r 0 (replicate count false) [] marks found) row_is (subst (λ o. Grows row 0 o [] marks found) old_is (subst (λ z. Grows row 0 old z marks found) none_is any_grows)) in
    let marked : AllMarked (row_of edges (Written n)) marks = subst (λ r. AllMarked r marks) row_is any_marked in
    record {
      inside = grows-length grows ∙ (length-replicate count false ∙ is);
      counted = grows-count grows (marks_count-none count);
      named = grows-named grows (λ w m. let i : true ≡ false = sym m ∙ none_marked count w in absurd (cc));
      trail = grows-trail edges n (row_of edges (Written n)) 0 (replicate count false) [] marks found (Written n) grows itself (λ by u h. h) (λ k h. absurd (omega arith));
      first = marked;
      later = λ p h. absurd (omega arith);
      reached = omega arith;
    }

pub searched-step : (edges : Edges) (n : ℕ) (marks : List Bool) (found : List Found) (next : ℕ) (row : List Edge) (marks' : List Bool) (found' : List Found) →
    Searched edges n marks found next → next < length found → row ≡ row_of edges (Unknown (get_or found next nothing_found).unknown) →
    Grows row (next + 1) marks found marks' found' → AllMarked row marks' → Searched edges n marks' found' (next + 1)
searched-step edges n marks found next row marks' found' s h row_is grows marked = record {
  inside = grows-length grows ∙ s.inside;
  counted = grows-count grows s.counted;
  named = grows-named grows s.named;
  trail = grows-trail edges n row (next + 1) marks found marks' found' (Unknown (get_or found next nothing_found).unknown) grows
      (subst (λ m. CameFrom n found (length found) m (Unknown (get_or found next nothing_found).unknown)) (sym (add-one next)) (earlier next (get_or found next nothing_found).unknown h refl))
      (λ by u k. subst (λ xs. Contains xs (edge by (Unknown u))) row_is k) s.trail;
  first = λ by u k. grows-marked grows u (s.first by u k);
  later = λ p before. ⊎_elim
      (λ (lt : p < next). λ by u k. grows-marked grows u (s.later p lt by u
      (subst (λ (f : Found). Contains (row_of edges (Unknown f.unknown)) (edge by (Unknown u))) (grows-at grows p (omega (arith, lt, h))) k)))
      (λ (is : p ≡ next). λ by u k. marked by u
      (subst (λ xs. Contains xs (edge by (Unknown u))) (sym row_is)
      (subst (λ (f : Found). Contains (row_of edges (Unknown f.unknown)) (edge by (Unknown u))) (grows-at grows p (omega (arith, is, h)) ∙ ap (λ j. get_or found j nothing_found) is) k)))
      (last_cases p next (omega (arith, before)));
  reached = omega (arith, h, grows-longer grows);
}

module _ (edges : Edges) (n : ℕ) (marks : List Bool) (found : List Found) (next : ℕ) (s : Searched edges n marks found next) (all : length found ≤ next) where
  reach-marked : (u : ℕ) → ReachesBy edges n u → IsTrue (get_or marks u false)
  reach-marked u (directly by _ h) = s.first by u h
  reach-marked u (onward by w _ r h) =
      let has = s.named w (reach-marked w r) in
      s.later has.0 (omega (arith, has.1, all)) by u (subst (λ x. Contains (row_of edges (Unknown x)) (edge by (Unknown u))) (sym has.2) h)

  pub searched-trace : IsTrace edges n found
  searched-trace = record { trail = s.trail; complete = λ u r. s.named u (reach-marked u r) }

pub searched-smaller : (edges : Edges) (n : ℕ) (marks : List Bool) (found : List Found) (next : ℕ) → Searched edges n marks found next → next < length found → next < length edges.unknown
searched-smaller edges n marks found next s h = omega (arith, h, s.counted, s.inside, marks_count-le marks)
