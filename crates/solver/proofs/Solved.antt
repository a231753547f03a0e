-- What rows of what reaches each unknown say of the constraints: the joins of what reaches the unknowns are least, they fit all
-- constraints where none is broken, and a chain to the first that is broken refuses them.
use Rattle.std.proofs.Common.{◌≡◌, refl, sym, ap, ◌∙◌, subst, ℕ, zero, suc, ◌<◌, ◌≤◌, ◌+◌, length, map, List, [], ◌∷◌, Bool, true, false, not, ◌&&◌, ◌||◌, arith, zero-add, add-zero, ⊎_elim, Some}
use Rattle.std.specs.Prelude.{Contains, slice_get, IsTrue, IsFalse, find}
use Rattle.std.specs.List.{list_any}
use Rattle.std.proofs.lemmas.Bool.{eqb-true, eq-eqb, or_left, or_right, or_cases}
use Rattle.std.proofs.lemmas.List.Elements.{All-contains}
use Rattle.std.proofs.lemmas.Option.{same_Some}
use Rattle.common.proofs.Elements.{none_in_nil, Contains-cons_cases, Contains-later, Contains-first}
use Rattle.lattices.specs.Constraints.{FitsAll, IsLeast, IsRefusedAt, Linked, holds, is_written, join_of, value}
use Rattle.lattices.specs.Lattice.{LatticeLaws, Lattice}
use Rattle.lattices.specs.Constraints as formal
use Rattle.lattices.proofs.Constraints.{all-from, join_all, join_all-above, join_all-least, not_below-one, not_below-part, part-below, reaches-below, join_of-least}
use Rattle.solver.specs.Breaker.{Arrives, Breaks, BreaksAlong, BreaksFirst, IsBreakChain, itself, onward}
use Rattle.solver.specs.Broken.{AllRightsInside, is_below, written_at}
use Rattle.solver.specs.Links.{AreBelow, InRange, IsBelow, edges_at, links_of}
use Rattle.solver.specs.EdgeRows.{row_at}
use Rattle.solver.specs.Reach as reach
use Rattle.solver.specs.Reach.{AreEdges, CameFrom, IsTrail, LeadsTo, LeadsOn, ReachesBy, AllLeadInside, nothing_found, row_of}
use Rattle.solver.specs.Rows.{AreRows, atom_has, has_at, left_has, reached_by, unknowns_with}
use Rattle.solver.specs.Constraints.{Picks, atom_of, constraint_of, is_among, row_join, rows_with, values_of}
use Rattle.solver.specs.declared.edges.Edges.{Edges}
use Rattle.solver.specs.declared.constraints.Atom.{Atom}
use Rattle.solver.specs.declared.constraints.Atom.TheVariants.{Unknown, Written}
use Rattle.solver.specs.declared.constraints.Constraint.{Constraint}
use Rattle.solver.proofs.Meaning.{at-map, in_table, leads-part, part-leads, reaches-to}
use Rattle.solver.proofs.Values.{is_among-row}
use Rattle.common.proofs.Cases.{by_test, contained_map, contained_map_only, contained_place, contained_at, there_map_only}

-- ---- the written elements in whose row an unknown stands
rows_with-has : (k count : ℕ) (rows : List (List Bool)) (u i : ℕ) → i < count → IsTrue (has_at rows u (k + i)) → Contains (rows_with k (reached_by k count rows) u) (k + i)
rows_with-has k zero rows u i h has = absurd (omega (arith, h))
rows_with-has k (suc count) rows u zero h has =
    let first : is_among u (unknowns_with k 0 rows) ≡ true = is_among-row rows k u ∙ (ap (has_at rows u) (sym (add-zero k)) ∙ has) in
    rw first (subst (λ n. Contains (k ∷ rows_with (suc k) (reached_by (suc k) count rows) u) n) (sym (add-zero k)) (Contains-first k (rows_with (suc k) (reached_by (suc k) count rows) u)))
rows_with-has k (suc count) rows u (suc i) h has =
    let e : suc k + i ≡ k + suc i = omega arith in
    go (is_among u (unknowns_with k 0 rows)) refl
    (subst (λ n. Contains (rows_with (suc k) (reached_by (suc k) count rows) u) n) e
    (rows_with-has (suc k) count rows u i (omega (arith, h)) (subst (λ n. IsTrue (has_at rows u n)) (sym e) has)))
  where
    go : (t : Bool) → is_among u (unknowns_with k 0 rows) ≡ t → Contains (rows_with (suc k) (reached_by (suc k) count rows) u) (k + suc i) →
        Contains (rows_with k (reached_by k (suc count) rows) u) (k + suc i)
    go true e more = rw e (Contains-later k (rows_with (suc k) (reached_by (suc k) count rows) u) (k + suc i) more)
    go false e more = rw e more

rows_with-only : (k count : ℕ) (rows : List (List Bool)) (u n : ℕ) → Contains (rows_with k (reached_by k count rows) u) n → (n < k + count) × IsTrue (has_at rows u n)
rows_with-only k zero rows u n h = absurd (none_in_nil n h)
rows_with-only k (suc count) rows u n h = go (is_among u (unknowns_with k 0 rows)) refl (rows_with-only (suc k) count rows u n)
  where
    go : (t : Bool) → is_among u (unknowns_with k 0 rows) ≡ t →
        (Contains (rows_with (suc k) (reached_by (suc k) count rows) u) n → (n < suc k + count) × IsTrue (has_at rows u n)) →
        (n < k + suc count) × IsTrue (has_at rows u n)
    go true e more =
        let k' : Contains (k ∷ rows_with (suc k) (reached_by (suc k) count rows) u) n = rw e at h in
        ⊎_elim
        (λ (is : k ≡ n). (omega (arith, is), ap (has_at rows u) (sym is) ∙ (sym (is_among-row rows k u) ∙ e)))
        (λ later. let found = more later in (omega (arith, found.0), found.1))
        (Contains-cons_cases k (rows_with (suc k) (reached_by (suc k) count rows) u) n k')
    go false e more =
        let k' : Contains (rows_with (suc k) (reached_by (suc k) count rows) u) n = rw e at h in
        let found = more k' in (omega (arith, found.0), found.1)

-- ---- some element that passes a test
pub list_any-has : {X : Type 0} (test : X → Bool) (xs : List X) (x : X) → Contains xs x → IsTrue (test x) → IsTrue (list_any test xs)
list_any-has test [] x h passes = absurd (none_in_nil x h)
list_any-has {X} test (y ∷ ys) x h passes =
    ⊎_elim (λ (is : y ≡ x). or_left (test y) (list_any test ys) (subst (λ (z : X). IsTrue (test z)) (sym is) passes))
    (λ k. or_right (test y) (list_any test ys) (list_any-has test ys x k passes))
    (Contains-cons_cases y ys x h)

pub list_any-only : {X : Type 0} (test : X → Bool) (xs : List X) → IsTrue (list_any test xs) → (x : X) × Contains xs x × IsTrue (test x)
list_any-only test [] h = absurd (cc)
list_any-only test (y ∷ ys) h =
    ⊎_elim (λ here. (y, Contains-first y ys, here))
    (λ k. let found = list_any-only test ys k in (found.0, Contains-later y ys found.0 found.1, found.2))
    (or_cases (test y) (list_any test ys) h)

-- ---- the first element that passes a test
find-at : {X : Type 0} (test : X → Bool) (xs : List X) (i : ℕ) (x : X) → slice_get xs i ≡ Some x → test x ≡ true →
    ((j : ℕ) (y : X) → j < i → slice_get xs j ≡ Some y → test y ≡ false) → find test xs ≡ Some x
find-at test [] i x at passes before = absurd (cc)
find-at {X} test (y ∷ ys) zero x at passes before =
    let is : y ≡ x = same_Some y x at in
    let y_passes : test y ≡ true = ap test is ∙ passes in
    rw y_passes (ap Some is)
find-at test (y ∷ ys) (suc i) x at passes before =
    let y_fails : test y ≡ false = before 0 y (omega arith) refl in
    rw y_fails (find-at test ys i x at passes (λ j z h k. before (suc j) z (omega (arith, h)) k))

-- ---- what the calls promise, in the words of this file
pub are-edges : {T : Type 0} (cs : List (Constraint T)) (edges : Edges) → ((k : ℕ) → row_at edges.written k ≡ edges_at (Written k) (links_of 0 cs)) →
    ((k : ℕ) → row_at edges.unknown k ≡ edges_at (Unknown k) (links_of 0 cs)) → AreEdges cs edges
are-edges {T} cs edges written unknown = record { row = row }
  where
    row : (from : Atom) → row_of edges from ≡ edges_at from (links_of 0 cs)
    row (Written n) = written n
    row (Unknown u) = unknown u

right-below : {T : Type 0} (cs : List (Constraint T)) (edges : Edges) → AreEdges cs edges → (written unknowns : ℕ) → InRange written unknowns cs →
    (from : Atom) (by : ℕ) (to : Atom) → LeadsTo edges from by to → IsBelow written unknowns to
right-below {T} cs edges are written unknowns range from by to leads =
    let part = leads-part cs edges are from by to leads in
    subst (λ r. IsBelow written unknowns r) part.right
    (All-contains (λ (c : Constraint T). AreBelow written unknowns c.left.items × IsBelow written unknowns c.right) cs part.constraint range (contained_at cs by part.constraint part.at)).1

pub unknowns-inside : {T : Type 0} (cs : List (Constraint T)) (edges : Edges) → AreEdges cs edges → (written unknowns : ℕ) → InRange written unknowns cs →
    length edges.unknown ≡ unknowns → AllLeadInside edges
unknowns-inside cs edges are written unknowns range count from by u leads =
    subst (λ n. u < n) (sym count) (right-below cs edges are written unknowns range from by (Unknown u) leads)

pub rights-inside : {T : Type 0} (cs : List (Constraint T)) (edges : Edges) → AreEdges cs edges → (written unknowns : ℕ) → InRange written unknowns cs →
    (count : ℕ) → count ≡ written → AllRightsInside count edges
rights-inside cs edges are written unknowns range count is from by n leads =
    subst (λ m. n < m) (sym is) (right-below cs edges are written unknowns range from by (Written n) leads)

module _ {T V : Type 0} (l : Lattice V) (laws : LatticeLaws l) (table : List V) (cs : List (Constraint T)) (edges : Edges) (are : AreEdges cs edges) (unknowns : ℕ)
    (range : InRange (length table) unknowns cs) (rows : List (List Bool)) (are_rows : AreRows edges rows) where
  abbrev all_meant : List (formal.Constraint T ℕ V)
  all_meant = map (constraint_of l table) cs

  abbrev vals : ℕ → V
  vals = values_of l table (reached_by 0 (length table) rows)

  abbrev reaching : ℕ → List ℕ
  reaching u = rows_with 0 (reached_by 0 (length table) rows) u

  abbrev below : ℕ → ℕ → Bool
  below = is_below l table

  abbrev one_meant : Constraint T → formal.Constraint T ℕ V
  one_meant = constraint_of l table

  -- the join of the written elements that reach an unknown
  join-is : (ns : List ℕ) → row_join l table ns ≡ join_all l (map (written_at l table) ns)
  join-is [] = refl
  join-is (n ∷ ns) = ap (λ x. l.join (written_at l table n) x) (join-is ns)

  below-vals : (n u : ℕ) → n < length table → ReachesBy edges n u → IsTrue (l.leq (written_at l table n) (vals u))
  below-vals n u h r =
      let has = are_rows.complete u n r in
      let in' : Contains (reaching u) n =
      subst (λ m. Contains (reaching u) m) (zero-add n) (rows_with-has 0 (length table) rows u n h (subst (λ m. IsTrue (has_at rows u m)) (sym (zero-add n)) has)) in
      subst (λ x. IsTrue (l.leq (written_at l table n) x)) (sym (join-is (reaching u)))
      (join_all-above l laws (map (written_at l table) (reaching u)) (written_at l table n) (contained_map (written_at l table) (reaching u) n in'))

  row-reaches : (u n : ℕ) → Contains (reaching u) n → (n < length table) × ReachesBy edges n u
  row-reaches u n h = let found = rows_with-only 0 (length table) rows u n h in (omega (arith, found.0), are_rows.sound u n found.1)

  vals-least : (u : ℕ) (b : V) → ((n : ℕ) → n < length table → ReachesBy edges n u → IsTrue (l.leq (written_at l table n) b)) → IsTrue (l.leq (vals u) b)
  vals-least u b each =
      subst (λ x. IsTrue (l.leq x b)) (sym (join-is (reaching u)))
      (join_all-least l laws (map (written_at l table) (reaching u)) b (λ v h.
      let source = contained_map_only (written_at l table) (reaching u) v h in
      let r = row-reaches u source.0 source.1 in
      subst (λ x. IsTrue (l.leq x b)) source.2 (each source.0 r.0 r.1)))

  vals-not_below : (u : ℕ) (b : V) → IsFalse (l.leq (vals u) b) → (n : ℕ) × (n < length table) × ReachesBy edges n u × IsFalse (l.leq (written_at l table n) b)
  vals-not_below u b fails =
      let one = not_below-one l laws (map (written_at l table) (reaching u)) b (subst (λ x. IsFalse (l.leq x b)) (join-is (reaching u)) fails) in
      let source = contained_map_only (written_at l table) (reaching u) one.0 one.1 in
      let r = row-reaches u source.0 source.1 in
      (source.0, r.0, r.1, subst (λ x. IsFalse (l.leq x b)) (sym source.2) one.2)

  -- ---- least
  part-fits : (i : ℕ) (c : Constraint T) (u : ℕ) → slice_get cs i ≡ Some c → c.right ≡ Unknown u → (a : Atom) → Contains c.left.items a →
      IsTrue (l.leq (value vals (atom_of l table a)) (vals u))
  part-fits i c u at right (Written n) part =
      below-vals n u (in_table l table cs edges are unknowns range c n (contained_at cs i c at) part)
      (reach.directly i u (subst (λ r. LeadsTo edges (Written n) i r) right (part-leads cs edges are i c (Written n) at part)))
  part-fits i c u at right (Unknown w) part =
      vals-least w (vals u) (λ n h r. below-vals n u h (reach.onward i w u r (subst (λ x. LeadsTo edges (Unknown w) i x) right (part-leads cs edges are i c (Unknown w) at part))))

  unknown-fits : (i : ℕ) (c : Constraint T) (u : ℕ) → slice_get cs i ≡ Some c → c.right ≡ Unknown u → IsTrue (holds l vals (one_meant c))
  unknown-fits i c u at right =
      subst (λ r. IsTrue (l.leq (join_of l.join l.least vals (map (atom_of l table) c.left.items)) (value vals (atom_of l table r)))) (sym right)
      (join_of-least l laws vals (map (atom_of l table) c.left.items) (vals u) (λ atom h.
      let source = contained_map_only (atom_of l table) c.left.items atom h in
      subst (λ x. IsTrue (l.leq (value vals x) (vals u))) source.2 (part-fits i c u at right source.0 source.1)))

  fit-right : (i : ℕ) (c : Constraint T) (r : Atom) → slice_get cs i ≡ Some c → c.right ≡ r → IsTrue (is_written (one_meant c).right || holds l vals (one_meant c))
  fit-right i c (Written n) at right = or_left (is_written (one_meant c).right) (holds l vals (one_meant c)) (ap (λ r. is_written (atom_of l table r)) right)
  fit-right i c (Unknown u) at right = or_right (is_written (one_meant c).right) (holds l vals (one_meant c)) (unknown-fits i c u at right)

  pub solved-least : IsLeast l all_meant vals
  solved-least = record {
    fits = all-from (λ d. is_written d.right || holds l vals d) all_meant (λ d h.
        let source = contained_map_only one_meant cs d h in
        let at = contained_place cs source.0 source.1 in
        subst (λ (x : formal.Constraint T ℕ V). IsTrue (is_written x.right || holds l vals x)) source.2 (fit-right at.0 source.0 source.0.right at.1 refl));
    below = λ others fits u occurs. vals-least u (others u) (λ n h r.
        reaches-below l laws all_meant others fits (written_at l table n) u (reaches-to l table cs edges are unknowns range n u r));
  }

  -- ---- what is broken
  pub record PartBreaks (c : Constraint T) (to : ℕ) : Type 0 where
    pub number : ℕ
    pub inside : number < length table
    pub member : IsTrue (left_has rows c.left.items number)
    pub fails : below number to ≡ false

  unbroken-part : (i : ℕ) (c : Constraint T) (to : ℕ) → slice_get cs i ≡ Some c → (a : Atom) → Contains c.left.items a →
      IsFalse (l.leq (value vals (atom_of l table a)) (written_at l table to)) → PartBreaks c to
  unbroken-part i c to at (Written n) part fails = record {
    number = n;
    inside = in_table l table cs edges are unknowns range c n (contained_at cs i c at) part;
    member = list_any-has (atom_has rows n) c.left.items (Written n) part (eq-eqb n n refl);
    fails = fails;
  }
  unbroken-part i c to at (Unknown u) part fails =
      let one = vals-not_below u (written_at l table to) fails in
      record {
        number = one.0;
        inside = one.1;
        member = list_any-has (atom_has rows one.0) c.left.items (Unknown u) part (are_rows.complete u one.0 one.2);
        fails = one.3;
      }

  unbroken-holds : (i : ℕ) (c : Constraint T) (r : Atom) → slice_get cs i ≡ Some c → c.right ≡ r → ((n : ℕ) → n < length table → Breaks below rows cs n i → ⊥) →
      IsTrue (holds l vals (one_meant c))
  unbroken-holds i c (Unknown u) at right none = unknown-fits i c u at right
  unbroken-holds i c (Written to) at right none =
      by_test (holds l vals (one_meant c)) (λ e. e) (λ fails.
      let part = not_below-part l laws vals (map (atom_of l table) c.left.items) (written_at l table to)
      (subst (λ r. IsFalse (l.leq (join_of l.join l.least vals (map (atom_of l table) c.left.items)) (value vals (atom_of l table r)))) right fails) in
      let source = contained_map_only (atom_of l table) c.left.items part.0 part.1 in
      let found = unbroken-part i c to at source.0 source.1 (subst (λ x. IsFalse (l.leq (value vals x) (written_at l table to))) (sym source.2) part.2) in
      absurd (none found.number found.inside (record { constraint = c; at = at; sides = record { to = to; is = right; member = found.member; fails = found.fails } })))

  pub solved-fits : ((n i : ℕ) → n < length table → Breaks below rows cs n i → ⊥) → FitsAll l all_meant vals
  solved-fits none = all-from (λ d. holds l vals d) all_meant (λ d h.
      let source = contained_map_only one_meant cs d h in
      let at = contained_place cs source.0 source.1 in
      subst (λ (x : formal.Constraint T ℕ V). IsTrue (holds l vals x)) source.2 (unbroken-holds at.0 source.0 source.0.right at.1 refl (λ n h' breaks. none n at.0 h' breaks)))

  -- along edges
  atom-arrives : (n : ℕ) (a : Atom) → IsTrue (atom_has rows n a) → Arrives edges n a
  atom-arrives n (Written m) h = subst (λ k. Arrives edges n (Written k)) (eqb-true n m h) itself
  atom-arrives n (Unknown u) h = onward u (are_rows.sound u n h)

  pub breaks-along : (n i : ℕ) → Breaks below rows cs n i → BreaksAlong edges below n i
  breaks-along n i breaks =
      let c = breaks.constraint in
      let part = list_any-only (atom_has rows n) c.left.items breaks.sides.member in
      record {
        from = part.0;
        arrives = atom-arrives n part.0 part.2;
        to = breaks.sides.to;
        leads = subst (λ r. LeadsTo edges part.0 i r) breaks.sides.is (part-leads cs edges are i c part.0 breaks.at part.1);
        fails = breaks.sides.fails;
      }

  -- a constraint that is broken along edges does not hold
  arrives-below : (n : ℕ) (from : Atom) → n < length table → Arrives edges n from → IsTrue (l.leq (written_at l table n) (value vals (atom_of l table from)))
  arrives-below n _ h itself = laws.reflexive (written_at l table n)
  arrives-below n _ h (onward u r) = below-vals n u h r

  broken-fails : (n i to : ℕ) (from : Atom) → n < length table → Arrives edges n from → LeadsTo edges from i (Written to) → below n to ≡ false → (c : Constraint T) → slice_get cs i ≡ Some c →
      (c.right ≡ Written to) × IsFalse (holds l vals (one_meant c))
  broken-fails n i to from h arrives leads fails c at =
      let part = leads-part cs edges are from i (Written to) leads in
      let same_c : part.constraint ≡ c = same_Some part.constraint c (sym part.at ∙ at) in
      let right : c.right ≡ Written to = ap (λ (x : Constraint T). x.right) (sym same_c) ∙ part.right in
      let here : Contains c.left.items from = subst (λ (x : Constraint T). Contains x.left.items from) same_c part.part in (
        right,
        by_test (holds l vals (one_meant c)) (λ held.
            let flows = laws.transitive (written_at l table n) (value vals (atom_of l table from)) (value vals (atom_of l table c.right)) (arrives-below n from h arrives)
            (part-below l laws all_meant vals (one_meant c) held (atom_of l table from) (contained_map (atom_of l table) c.left.items from here)) in
            let flows_to : l.leq (written_at l table n) (written_at l table to) ≡ true = subst (λ r. IsTrue (l.leq (written_at l table n) (value vals (atom_of l table r)))) right flows in
            let no : true ≡ false = sym flows_to ∙ fails in absurd (cc))
            (λ e. e),
      )

  -- ---- the chain
  leads-joined : (from : Atom) (chain : List ℕ) (last : ℕ) (to : Atom) → LeadsOn edges from chain last to → (c : Constraint T) → slice_get cs last ≡ Some c →
      (picked : List (formal.Constraint T ℕ V)) × Picks all_meant chain picked × Linked all_meant (atom_of l table from) picked (one_meant c)
  leads-joined _ _ _ _ (reach.ends from to by leads) c at =
      let part = leads-part cs edges are from by to leads in
      let same_c : part.constraint ≡ c = same_Some part.constraint c (sym part.at ∙ at) in
      let here : Contains c.left.items from = subst (λ (x : Constraint T). Contains x.left.items from) same_c part.part in (
        one_meant c ∷ [],
        (at-map one_meant cs by c at, tt),
        formal.ends (atom_of l table from) (one_meant c) (contained_map one_meant cs c (contained_at cs by c at)) (contained_map (atom_of l table) c.left.items from here),
      )
  leads-joined _ _ _ _ (reach.goes_on from to by u last rest leads more) c at =
      let part = leads-part cs edges are from by (Unknown u) leads in
      let d = part.constraint in
      let onward = leads-joined (Unknown u) rest last to more c at in (
        one_meant d ∷ onward.0,
        (at-map one_meant cs by d part.at, onward.1),
        formal.goes_on (atom_of l table from) (one_meant d) u onward.0 (one_meant c) (contained_map one_meant cs d (contained_at cs by d part.at))
            (contained_map (atom_of l table) d.left.items from part.part) (ap (atom_of l table) part.right) onward.2,
      )

  pub record IsRefusedBy (n : ℕ) (chain : List ℕ) : Type 0 where
    pub picked : List (formal.Constraint T ℕ V)
    pub last : formal.Constraint T ℕ V
    pub picks : Picks all_meant chain picked
    pub refused : IsRefusedAt l all_meant (written_at l table n) picked last

  -- the end of a chain is a constraint that is broken
  end-arrives : (n : ℕ) (from : Atom) (chain : List ℕ) (last : ℕ) (to : Atom) → Arrives edges n from → LeadsOn edges from chain last to → (end : Atom) × Arrives edges n end × LeadsTo edges end last to
  end-arrives n _ _ _ _ arrives (reach.ends from to by leads) = (from, arrives, leads)
  end-arrives n _ _ _ _ arrives (reach.goes_on from to by u last rest leads more) =
      end-arrives n (Unknown u) rest last to (onward u (arrives-on n from by u arrives leads)) more
    where
      arrives-on : (n : ℕ) (from : Atom) (by u : ℕ) → Arrives edges n from → LeadsTo edges from by (Unknown u) → ReachesBy edges n u
      arrives-on n _ by u itself leads = reach.directly by u leads
      arrives-on n _ by u (onward w r) leads = reach.onward by w u r leads

  pub refused-by : (n : ℕ) → BreaksFirst below (length table) rows cs n → (chain : List ℕ) → IsBreakChain edges below n chain → IsRefusedBy n chain
  refused-by n first chain is =
      let end = end-arrives n (Written n) chain is.last (Written is.to) itself is.leads in
      let part = leads-part cs edges are end.0 is.last (Written is.to) end.2 in
      let c = part.constraint in
      let fails = broken-fails n is.last is.to end.0 first.inside end.1 end.2 is.fails c part.at in
      let joined = leads-joined (Written n) chain is.last (Written is.to) is.leads c part.at in
      let right : (one_meant c).right ≡ formal.Written (written_at l table is.to) = ap (atom_of l table) fails.0 in
      let passes : (is_written (one_meant c).right && not (holds l vals (one_meant c))) ≡ true = rw (ap (λ r. is_written r) right, fails.1) refl in
      let before : is.last ≤ first.index = is.first first.index (breaks-along n first.index first.breaks) in
      record {
        picked = joined.0;
        last = one_meant c;
        picks = joined.1;
        refused = record {
          values = vals;
          least = solved-least;
          first = find-at (λ d. is_written d.right && not (holds l vals d)) all_meant is.last (one_meant c) (at-map one_meant cs is.last c part.at) passes (λ j d lt at.
              let source = there_map_only one_meant cs j d at in
              let held : holds l vals d ≡ true = subst (λ (x : formal.Constraint T ℕ V). IsTrue (holds l vals x)) source.2
              (unbroken-holds j source.0 source.0.right source.1 refl (λ m h breaks. first.before m j h (omega (arith, lt, before)) breaks)) in
              holding-fails (is_written d.right) (holds l vals d) held);
          chained = record { linked = joined.2; to = written_at l table is.to; right_is = right; not_below = is.fails };
        };
      }
    where
      holding-fails : (w h : Bool) → h ≡ true → (w && not h) ≡ false
      holding-fails true h e = rw e refl
      holding-fails false h e = refl
