-- Constraints by which the same flows as by others, straight or by further unknowns, in place of those.
use Rattle.std.proofs.Common.{◌≡◌, refl, sym, ap, ◌∙◌, subst, ℕ, ◌<◌, ◌≤◌, Bool, true, false, List, [], ◌∷◌, ◌++◌, length, map, arith, inl, inr, ⊎_elim}
use Rattle.std.specs.Prelude.{Contains, IsTrue, IsFalse, None, Option, if◌then◌else◌, nat_le}
use Rattle.std.proofs.lemmas.Bool.{le-leb, leb-true, lt-leb}
use Rattle.std.proofs.lemmas.List.Elements.{Contains-append_cases, Contains-append_left, Contains-append_right}
use Rattle.common.proofs.Cases.{by_test, contained_map, contained_map_only}
use Rattle.common.proofs.Elements.{none_in_nil, Contains-cons_cases, Contains-first, Contains-later}
use Rattle.labels.proofs.Elements.{All-from_each, each_from_All}
use Rattle.labels.specs.Label.{Label}
use Rattle.lattices.specs.Constraints.{Atom, Constraint, Unknown, Written, is_inner}
use Rattle.lattices.specs.Lattice.{Lattice}
use Rattle.resolved.specs.Flow.{Gathered}
use Rattle.gathering.specs.Rerouted.{Brings, IsAdded, IsRerouted, LeadsInside, Links, ended, itself, led, others}
use Rattle.solver.specs.Links.{AreBelow, IsBelow}
use Rattle.solver.specs.Constraints.{atom_of, constraint_of}
use Rattle.solver.specs.declared.constraints.Atom.{Atom as StoredAtom}
use Rattle.solver.specs.declared.constraints.Atom.TheVariants as stored
use Rattle.constraints.specs.Added.{Stored}
use Rattle.constraints.specs.Merging.{HaveSameFlows, ComesOf, Flows, FlowsOn, FlowsOver, IsFollowed, followed}
use Rattle.constraints.specs.Merging as following

not-both : (b : Bool) → b ≡ true → b ≡ false → ⊥
not-both true e f = let i : true ≡ false = f in absurd (cc)
not-both false e f = let i : false ≡ true = e in absurd (cc)

leads-then : {N U V : Type 0} (inner : U → Bool) (cs : List (Constraint N U V)) (from middle to : Atom U V) → LeadsInside inner cs from middle → LeadsInside inner cs middle to
    → LeadsInside inner cs from to
leads-then inner cs from middle to first (ended _ same) = subst (LeadsInside inner cs from) same first
leads-then inner cs from middle to first (led next _ leads link e) = led next to (leads-then inner cs from middle next first leads) link e

-- ---- what was rerouted, once more by some of the further unknowns
module _ {N U V : Type 0} (inner further new : U → Bool) (cs base added shared : List (Constraint (Option N) U V)) (stands : U → List (Atom U V))
    (within : (u : U) → IsTrue (new u) → IsTrue (further u)) (goes : (part to : Atom U V) → Links added part to → LeadsInside inner (base ++ shared) part to)
    (each : (c : Constraint (Option N) U V) → Contains shared c → IsAdded inner new stands added c)
    (old : IsRerouted inner further cs base added) where
  leads-shared : (from to : Atom U V) → LeadsInside inner (base ++ added) from to → LeadsInside inner (base ++ shared) from to
  leads-shared from to (ended _ same) = ended to same
  leads-shared from to (led middle _ leads link e) = ⊎_elim
      (λ stays. led middle to (leads-shared from middle leads)
      (record { by = link.by; among = Contains-append_left base shared link.by stays; starts = link.starts; ends = link.ends }) e)
      (λ more. leads-then inner (base ++ shared) from middle to (leads-shared from middle leads)
      (goes middle to (record { by = link.by; among = more; starts = link.starts; ends = link.ends })))
      (Contains-append_cases base added link.by link.among)

  same-unknown : (u w : U) → ◌≡◌ {A = Atom U V} (Unknown u) (Unknown w) → u ≡ w
  same-unknown u w e = cc

  -- the old parts that a part and several bring, and those that an unknown stands for
  abbrev brought : Atom U V → List (Atom U V)
  brought (Written v) = Written v ∷ []
  brought (Unknown u) = if further u then old.stands u else (Unknown u ∷ [])

  abbrev all-brought : List (Atom U V) → List (Atom U V)
  all-brought [] = []
  all-brought (a ∷ rest) = brought a ++ all-brought rest

  abbrev stands-all : U → List (Atom U V)
  stands-all u = if new u then all-brought (stands u) else old.stands u

  brought-in : (part from : Atom U V) → Brings further old.stands part from → Contains (brought part) from
  brought-in (Written v) from (itself f same) = subst (Contains (Written v ∷ [])) same (Contains-first (Written v) [])
  brought-in (Written v) from (others u is f h) = absurd (cc)
  brought-in (Unknown w) from (itself f same) =
      subst (λ b. Contains (if b then old.stands w else (Unknown w ∷ [])) from) (sym f) (subst (Contains (Unknown w ∷ [])) same (Contains-first (Unknown w) []))
  brought-in (Unknown w) from (others u is f h) =
      let e : w ≡ u = same-unknown w u is in
      subst (λ k. Contains (brought (Unknown k)) from) (sym e) (subst (λ b. Contains (if b then old.stands u else (Unknown u ∷ [])) from) (sym f) h)

  brought-out : (part from : Atom U V) → Contains (brought part) from → Brings further old.stands part from
  brought-out (Written v) from h = ⊎_elim (λ same. itself refl same) (λ none. absurd (none_in_nil from none)) (Contains-cons_cases (Written v) [] from h)
  brought-out (Unknown w) from h = by_test (further w)
      (λ f. others w refl f (subst (λ b. Contains (if b then old.stands w else (Unknown w ∷ [])) from) f h))
      (λ f. itself f (⊎_elim (λ same. same) (λ none. absurd (none_in_nil from none))
      (Contains-cons_cases (Unknown w) [] from (subst (λ b. Contains (if b then old.stands w else (Unknown w ∷ [])) from) f h))))

  all-in : (xs : List (Atom U V)) (part from : Atom U V) → Contains xs part → Brings further old.stands part from → Contains (all-brought xs) from
  all-in [] part from h brings = absurd (none_in_nil part h)
  all-in (x ∷ xs) part from h brings = ⊎_elim
      (λ same. Contains-append_left (brought x) (all-brought xs) from (subst (λ a. Contains (brought a) from) (sym same) (brought-in part from brings)))
      (λ k. Contains-append_right (brought x) (all-brought xs) from (all-in xs part from k brings))
      (Contains-cons_cases x xs part h)

  all-out : (xs : List (Atom U V)) (from : Atom U V) → Contains (all-brought xs) from → (part : Atom U V) × Contains xs part × Brings further old.stands part from
  all-out [] from h = absurd (none_in_nil from h)
  all-out (x ∷ xs) from h = ⊎_elim
      (λ k. (x, Contains-first x xs, brought-out x from k))
      (λ k. let found = all-out xs from k in (found.0, Contains-later x xs found.0 found.1, found.2))
      (Contains-append_cases (brought x) (all-brought xs) from h)

  all-new : (u : U) → IsTrue (new u) → stands-all u ≡ all-brought (stands u)
  all-new u n = ap (λ b. if b then all-brought (stands u) else old.stands u) n

  all-old : (u : U) → IsFalse (new u) → stands-all u ≡ old.stands u
  all-old u n = ap (λ b. if b then all-brought (stands u) else old.stands u) n

  not-new : (a : Atom U V) → IsFalse (is_inner further a) → IsFalse (is_inner new a)
  not-new (Written v) f = refl
  not-new (Unknown u) f = by_test (new u) (λ n. absurd (not-both (further u) (within u n) f)) (λ n. n)

  -- what a part brings comes by parts that it brings before
  brings-by : (part from : Atom U V) → Brings further stands-all part from → (middle : Atom U V) × Brings new stands part middle × Brings further old.stands middle from
  brings-by part from (itself f same) = (part, itself (not-new part f) refl, itself f same)
  brings-by part from (others u is f h) = by_test (new u)
      (λ n. let found = all-out (stands u) from (subst (λ list. Contains list from) (all-new u n) h) in (found.0, others u is n found.1, found.2))
      (λ n. (part, itself (subst (λ a. IsFalse (is_inner new a)) (sym is) n) refl, others u is f (subst (λ list. Contains list from) (all-old u n) h)))

  each-shared : (c : Constraint (Option N) U V) → Contains shared c → IsAdded inner further stands-all cs c
  each-shared c h =
      let is = each c h in
      -- the added constraint by which what is no new unknown flows there
      let linked : IsFalse (new is.to) → (part from : Atom U V) → Contains c.left part → Brings further stands-all part from
      → (middle : Atom U V) × Links added middle c.right × Brings further old.stands middle from =
      λ n part from starts brings. let by = brings-by part from brings in (by.0, is.to_old n part by.0 starts by.1, by.2) in
      record {
        to = is.to;
        right_is = is.right_is;
        inner_is = is.inner_is;
        no_target = is.no_target;
        to_further = λ f part from starts brings. by_test (new is.to)
            (λ n.
            let by = brings-by part from brings in
            subst (λ list. Contains list from) (sym (all-new is.to n)) (all-in (stands is.to) by.0 from (is.to_further n part by.0 starts by.1) by.2))
            (λ n.
            let by = linked n part from starts brings in
            let one = old.each by.1.by by.1.among in
            let to_is : one.to ≡ is.to = same-unknown one.to is.to (sym one.right_is ∙ (by.1.ends ∙ is.right_is)) in
            subst (λ list. Contains list from) (sym (all-old is.to n)) (subst (λ u. Contains (old.stands u) from) to_is
            (one.to_further (subst (λ u. IsTrue (further u)) (sym to_is) f) by.0 from by.1.starts by.2)));
        to_old = λ f part from starts brings.
            let n : IsFalse (new is.to) = by_test (new is.to) (λ k. absurd (not-both (further is.to) (within is.to k) f)) (λ k. k) in
            let by = linked n part from starts brings in
            let one = old.each by.1.by by.1.among in
            let to_is : one.to ≡ is.to = same-unknown one.to is.to (sym one.right_is ∙ (by.1.ends ∙ is.right_is)) in
            subst (Links cs from) by.1.ends (one.to_old (subst (λ u. IsFalse (further u)) (sym to_is) f) by.0 from by.1.starts by.2);
      }

  pub rerouted-twice : IsRerouted inner further cs base shared
  rerouted-twice = record {
    stands = stands-all;
    inside = old.inside;
    outer_is = old.outer_is;
    stays = old.stays;
    old_parts = old.old_parts;
    old_right = old.old_right;
    goes = λ c h e. ⊎_elim (λ stays. inl stays) (λ leads. inr (λ part there. leads-shared part c.right (leads part there))) (old.goes c h e);
    each = each-shared;
  }

-- ---- their numbers are in range
abbrev pub FitsIn : (written unknowns : ℕ) → Stored → Type 0
FitsIn written unknowns c = AreBelow written unknowns c.left.items × IsBelow written unknowns c.right

-- ---- as constraints over labels
module _ (l : Lattice Label) (table : List Label) where
  same-number : (u k : ℕ) → ◌≡◌ {A = Atom ℕ Label} (Unknown u) (Unknown k) → u ≡ k
  same-number u k e = cc

  link-meant : (xs : List Stored) (part to : StoredAtom) → Flows xs part to → Links (map (constraint_of l table) xs) (atom_of l table part) (atom_of l table to)
  link-meant xs part to flow = record {
    by = constraint_of l table flow.by;
    among = contained_map (constraint_of l table) xs flow.by flow.among;
    starts = contained_map (atom_of l table) flow.by.left.items part flow.starts;
    ends = ap (atom_of l table) flow.ends;
  }

  module _ (real : ℕ) (further : ℕ → Bool) (cs : List Gathered) (walked spread shared : List Stored) (first next : ℕ) (are : HaveSameFlows (IsFollowed real walked) first next spread shared)
      (below : (c : Stored) → Contains spread c → FitsIn (length table) first c) (from_first : (u : ℕ) → first ≤ u → IsTrue (further u))
      (old : IsRerouted (λ k. nat_le real k) further cs (map (constraint_of l table) walked) (map (constraint_of l table) spread)) where
    abbrev inner : ℕ → Bool
    inner k = nat_le real k

    abbrev base : List Gathered
    base = map (constraint_of l table) walked

    abbrev together : List Gathered
    together = base ++ map (constraint_of l table) shared

    abbrev meanings : ℕ → List (Atom ℕ Label)
    meanings u = map (atom_of l table) (are.stands u)

    is-old : (a : StoredAtom) → IsBelow (length table) first a → IsFalse (is_inner (λ u. nat_le first u) (atom_of l table a))
    is-old (stored.Written n) h = refl
    is-old (stored.Unknown u) h = lt-leb first u h

    old-part : (part to : StoredAtom) → Flows spread part to → IsFalse (is_inner (λ u. nat_le first u) (atom_of l table part))
    old-part part to flow = is-old part (each_from_All (IsBelow (length table) first) flow.by.left.items (below flow.by flow.among).0 part flow.starts)

    old-end : (part to : StoredAtom) → Flows spread part to → IsFalse (is_inner (λ u. nat_le first u) (atom_of l table to))
    old-end part to flow = is-old to (subst (IsBelow (length table) first) flow.ends (below flow.by flow.among).1)

    -- a part that is no new unknown brings itself
    only-itself : (part from : Atom ℕ Label) → IsFalse (is_inner (λ u. nat_le first u) part) → Brings (λ u. nat_le first u) meanings part from → part ≡ from
    only-itself part from f (itself e same) = same
    only-itself part from f (others u is e h) = absurd (not-both (nat_le first u) e (subst (λ a. IsFalse (is_inner (λ u. nat_le first u) a)) is f))

    -- to an old right side, and to a new one
    to-old : (part to : StoredAtom) (from : Atom ℕ Label) → IsFalse (is_inner (λ u. nat_le first u) (atom_of l table to)) → ComesOf (Flows spread) first next are.stands part to
        → Brings (λ u. nat_le first u) meanings (atom_of l table part) from → Links (map (constraint_of l table) spread) from (atom_of l table to)
    to-old part to from f (inl flow) brings =
        subst (λ a. Links (map (constraint_of l table) spread) a (atom_of l table to)) (only-itself (atom_of l table part) from (old-part part to flow) brings) (link-meant spread part to flow)
    to-old part to from f (inr (inl passed)) (itself e same) =
        absurd (not-both (nat_le first passed.by) (le-leb first passed.by passed.from_first) (subst (λ a. IsFalse (is_inner (λ u. nat_le first u) a)) (ap (atom_of l table) passed.is) e))
    to-old part to from f (inr (inl passed)) (others u is e h) =
        let same : u ≡ passed.by = same-number u passed.by (sym is ∙ ap (atom_of l table) passed.is) in
        let one = contained_map_only (atom_of l table) (are.stands passed.by) from (subst (λ k. Contains (meanings k) from) same h) in
        subst (λ a. Links (map (constraint_of l table) spread) a (atom_of l table to)) one.2 (link-meant spread one.0 to (passed.each one.0 one.1))
    to-old part to from f (inr (inr gathered)) brings =
        absurd (not-both (nat_le first gathered.by) (le-leb first gathered.by gathered.from_first) (subst (λ a. IsFalse (is_inner (λ u. nat_le first u) a)) (ap (atom_of l table) gathered.is) f))

    to-new : (part to : StoredAtom) (from : Atom ℕ Label) (u : ℕ) → atom_of l table to ≡ Unknown u → IsTrue (nat_le first u) → ComesOf (Flows spread) first next are.stands part to
        → Brings (λ u. nat_le first u) meanings (atom_of l table part) from → Contains (meanings u) from
    to-new part to from u is n (inl flow) brings =
        absurd (not-both (nat_le first u) n (subst (λ a. IsFalse (is_inner (λ u. nat_le first u) a)) is (old-end part to flow)))
    to-new part to from u is n (inr (inl passed)) brings =
        absurd (not-both (nat_le first u) n (subst (λ a. IsFalse (is_inner (λ u. nat_le first u) a)) is (old-end passed.some.0 to (passed.each passed.some.0 passed.some.1))))
    to-new part to from u is n (inr (inr gathered)) brings =
        let same : gathered.by ≡ u = same-number gathered.by u (sym (ap (atom_of l table) gathered.is) ∙ is) in
        subst (λ k. Contains (meanings k) from) same
        (subst (Contains (meanings gathered.by)) (only-itself (atom_of l table part) from (old-part part gathered.end gathered.goes) brings)
        (contained_map (atom_of l table) (are.stands gathered.by) part gathered.stands_for))

    -- its right side is inner, and it has no target
    record IsInward (c : Stored) : Type 0 where
      to : ℕ
      right_is : atom_of l table c.right ≡ Unknown to
      inner_is : IsTrue (inner to)
      no_target : c.target ≡ None

    like-spread : (c d : Stored) → Contains spread d → d.right ≡ c.right → c.target ≡ None → IsInward c
    like-spread c d h same none =
        let is = old.each (constraint_of l table d) (contained_map (constraint_of l table) spread d h) in
        record { to = is.to; right_is = ap (atom_of l table) (sym same) ∙ is.right_is; inner_is = is.inner_is; no_target = none }

    inward-by : (c : Stored) (part : StoredAtom) → c.target ≡ None → ComesOf (Flows spread) first next are.stands part c.right → IsInward c
    inward-by c part none (inl flow) = like-spread c flow.by flow.among flow.ends none
    inward-by c part none (inr (inl passed)) = let flow = passed.each passed.some.0 passed.some.1 in like-spread c flow.by flow.among flow.ends none
    inward-by c part none (inr (inr gathered)) = record {
      to = gathered.by;
      right_is = ap (atom_of l table) gathered.is;
      inner_is = old.inside gathered.by (from_first gathered.by gathered.from_first);
      no_target = none;
    }

    inward : (c : Stored) → Contains shared c → IsInward c
    inward c h = ⊎_elim
        (λ there. like-spread c c there refl (old.each (constraint_of l table c) (contained_map (constraint_of l table) spread c there)).no_target)
        (λ made. inward-by c made.1.0 made.0 (are.came made.1.0 c.right (record { by = c; among = h; starts = made.1.1; ends = refl })))
        (are.inner c h)

    each-stored : (c : Stored) → Contains shared c → IsAdded inner (λ u. nat_le first u) meanings (map (constraint_of l table) spread) (constraint_of l table c)
    each-stored c h =
        let is = inward c h in
        let came : (part : StoredAtom) → Contains c.left.items part → ComesOf (Flows spread) first next are.stands part c.right =
        λ part starts. are.came part c.right (record { by = c; among = h; starts = starts; ends = refl }) in
        record {
          to = is.to;
          right_is = is.right_is;
          inner_is = is.inner_is;
          no_target = is.no_target;
          to_further = λ n part from starts brings.
              let one = contained_map_only (atom_of l table) c.left.items part starts in
              to-new one.0 c.right from is.to is.right_is n (came one.0 one.1) (subst (λ a. Brings (λ u. nat_le first u) meanings a from) (sym one.2) brings);
          to_old = λ f part from starts brings.
              let one = contained_map_only (atom_of l table) c.left.items part starts in
              to-old one.0 c.right from (subst (λ a. IsFalse (is_inner (λ u. nat_le first u) a)) (sym is.right_is) f) (came one.0 one.1)
              (subst (λ a. Brings (λ u. nat_le first u) meanings a from) (sym one.2) brings);
        }

    -- a path of stored constraints, and one that goes on by shared ones
    path-meant : (part to : StoredAtom) → IsFollowed real walked part to → LeadsInside inner together (atom_of l table part) (atom_of l table to)
    path-meant part to (following.itself _ same) = ended (atom_of l table to) (ap (atom_of l table) same)
    path-meant part to (followed middle u on least flow) =
        let link = link-meant walked middle (stored.Unknown u) flow in
        led (atom_of l table middle) (Unknown u) (path-meant part middle on)
        (record { by = link.by; among = Contains-append_left base (map (constraint_of l table) shared) link.by link.among; starts = link.starts; ends = link.ends })
        (le-leb real u least)

    shared-meant : (from : Atom ℕ Label) (part to : StoredAtom) → LeadsInside inner together from (atom_of l table part) → Flows shared part to
        → LeadsInside inner together from (atom_of l table to)
    shared-meant from part to leads flow =
        let link = link-meant shared part to flow in
        let is = inward flow.by flow.among in
        let right : atom_of l table to ≡ Unknown is.to = ap (atom_of l table) (sym flow.ends) ∙ is.right_is in
        led (atom_of l table part) (atom_of l table to) leads
        (record { by = link.by; among = Contains-append_right base (map (constraint_of l table) shared) link.by link.among; starts = link.starts; ends = link.ends })
        (subst (λ a. IsTrue (is_inner inner a)) (sym right) is.inner_is)

    over-meant : (part to : StoredAtom) → FlowsOver (IsFollowed real walked) shared part to → LeadsInside inner together (atom_of l table part) (atom_of l table to)
    over-meant part to flows = go flows.goes
      where
        path : LeadsInside inner together (atom_of l table part) (atom_of l table flows.by)
        path = path-meant part flows.by flows.over

        go : FlowsOn shared flows.by to → LeadsInside inner together (atom_of l table part) (atom_of l table to)
        go (inl flow) = shared-meant (atom_of l table part) flows.by to path flow
        go (inr by) = shared-meant (atom_of l table part) (stored.Unknown by.0) to (shared-meant (atom_of l table part) flows.by (stored.Unknown by.0) path by.1) by.2

    links-shared : (part to : Atom ℕ Label) → Links (map (constraint_of l table) spread) part to → LeadsInside inner together part to
    links-shared part to link =
        let by = contained_map_only (constraint_of l table) spread link.by link.among in
        let from = contained_map_only (atom_of l table) by.0.left.items part (subst (λ (g : Gathered). Contains g.left part) (sym by.2) link.starts) in
        let ends : atom_of l table by.0.right ≡ to = ap (λ (g : Gathered). g.right) by.2 ∙ link.ends in
        subst (λ a. LeadsInside inner together a to) from.2 (subst (LeadsInside inner together (atom_of l table from.0)) ends
        (over-meant from.0 by.0.right (are.goes from.0 by.0.right (record { by = by.0; among = by.1; starts = from.1; ends = refl }))))

    pub meant-rerouted : IsRerouted inner further cs base (map (constraint_of l table) shared)
    meant-rerouted =
        rerouted-twice inner further (λ u. nat_le first u) cs base (map (constraint_of l table) spread) (map (constraint_of l table) shared) meanings
        (λ u n. from_first u (leb-true first u n)) links-shared
        (λ c h.
        let found = contained_map_only (constraint_of l table) shared c h in
        subst (IsAdded inner (λ u. nat_le first u) meanings (map (constraint_of l table) spread)) found.2 (each-stored found.0 found.1)) old

-- ---- in a wider range
below-more : (written unknowns more : ℕ) (a : StoredAtom) → unknowns ≤ more → IsBelow written unknowns a → IsBelow written more a
below-more written unknowns more (stored.Written n) most h = h
below-more written unknowns more (stored.Unknown u) most h = omega (arith, h, most)

pub fits-more : (written unknowns more : ℕ) (c : Stored) → unknowns ≤ more → FitsIn written unknowns c → FitsIn written more c
fits-more written unknowns more c most fits = (
  All-from_each (IsBelow written more) c.left.items (λ a h. below-more written unknowns more a most (each_from_All (IsBelow written unknowns) c.left.items fits.0 a h)),
  below-more written unknowns more c.right most fits.1,
)

pub shared-in-range : (Over : StoredAtom → StoredAtom → Type 0) (written first next : ℕ) (spread shared : List Stored) → first ≤ next → HaveSameFlows Over first next spread shared
    → ((c : Stored) → Contains spread c → FitsIn written first c) → (c : Stored) → Contains shared c → FitsIn written next c
shared-in-range Over written first next spread shared most are all c h = ⊎_elim
    (λ there. fits-more written first next c most (all c there))
    (λ made. (
      All-from_each (IsBelow written next) c.left.items (λ part starts. (both part (came part starts)).0),
      (both made.1.0 (came made.1.0 made.1.1)).1,
    ))
    (are.inner c h)
  where
    came : (part : StoredAtom) → Contains c.left.items part → ComesOf (Flows spread) first next are.stands part c.right
    came part starts = are.came part c.right (record { by = c; among = h; starts = starts; ends = refl })

    flow-below : (part to : StoredAtom) → Flows spread part to → IsBelow written next part × IsBelow written next to
    flow-below part to flow = (
      below-more written first next part most (each_from_All (IsBelow written first) flow.by.left.items (all flow.by flow.among).0 part flow.starts),
      below-more written first next to most (subst (IsBelow written first) flow.ends (all flow.by flow.among).1),
    )

    number-below : (a : StoredAtom) (u : ℕ) → a ≡ stored.Unknown u → u < next → IsBelow written next a
    number-below a u is below = subst (IsBelow written next) (sym is) below

    both : (part : StoredAtom) → ComesOf (Flows spread) first next are.stands part c.right → IsBelow written next part × IsBelow written next c.right
    both part (inl flow) = flow-below part c.right flow
    both part (inr (inl passed)) = (number-below part passed.by passed.is passed.below_next, (flow-below passed.some.0 c.right (passed.each passed.some.0 passed.some.1)).1)
    both part (inr (inr gathered)) = ((flow-below part gathered.end gathered.goes).0, number-below c.right gathered.by gathered.is gathered.below_next)
