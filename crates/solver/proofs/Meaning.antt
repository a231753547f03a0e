-- What links of constraints mean: a link is a part of a left side, and along links a written element reaches what it reaches by the
-- constraints.
use Rattle.std.proofs.Common.{◌≡◌, refl, sym, ap, ◌∙◌, subst, ℕ, zero, suc, ◌<◌, ◌+◌, length, map, List, [], ◌∷◌, Bool, true, false, arith, zero-add, add-zero, ⊎_elim, Option, Some, None}
use Rattle.std.specs.Prelude.{Contains, slice_get}
use Rattle.std.proofs.lemmas.Bool.{eqb-true, eq-eqb}
use Rattle.std.proofs.lemmas.List.Elements.{Contains-append_cases, Contains-append_left, Contains-append_right, All-contains}
use Rattle.std.proofs.lemmas.Option.{same_Some}
use Rattle.common.proofs.Elements.{none_in_nil, Contains-cons_cases, Contains-later, Contains-first}
use Rattle.lattices.specs.Lattice.{Lattice}
use Rattle.lattices.specs.Constraints.{Reaches, onward}
use Rattle.lattices.specs.Constraints as formal
use Rattle.solver.specs.Broken.{written_at}
use Rattle.solver.specs.Links.{AreBelow, InRange, IsBelow, Link, edges_at, left_links, link, links_of, same}
use Rattle.solver.specs.Reach as reach
use Rattle.solver.specs.Reach.{AreEdges, LeadsTo, ReachesBy, edge, row_of}
use Rattle.solver.specs.Constraints.{atom_of, constraint_of}
use Rattle.solver.specs.declared.edges.Edge.{Edge}
use Rattle.solver.specs.declared.edges.Edges.{Edges}
use Rattle.solver.specs.declared.constraints.Atom.{Atom}
use Rattle.solver.specs.declared.constraints.Atom.TheVariants.{Unknown, Written}
use Rattle.solver.specs.declared.constraints.Constraint.{Constraint}
use Rattle.common.proofs.Cases.{contained_map, contained_map_only, contained_at}

-- ---- lists

abbrev some_or : {X : Type 0} → X → Option X → X
some_or d None = d
some_or d (Some x) = x

pub at-map : {X Y : Type 0} (f : X → Y) (xs : List X) (i : ℕ) (x : X) → slice_get xs i ≡ Some x → slice_get (map f xs) i ≡ Some (f x)
at-map f [] i x e = absurd (cc)
at-map f (y ∷ ys) zero x e = ap (λ z. Some (f z)) (same_Some y x e)
at-map f (y ∷ ys) (suc i) x e = at-map f ys i x e

-- ---- atoms
pub same-itself : (a : Atom) → same a a ≡ true
same-itself (Written n) = eq-eqb n n refl
same-itself (Unknown u) = eq-eqb u u refl

pub same-is : (a b : Atom) → same a b ≡ true → a ≡ b
same-is (Written n) (Written m) e = ap Written (eqb-true n m e)
same-is (Written n) (Unknown u) e = absurd (cc)
same-is (Unknown u) (Written n) e = absurd (cc)
same-is (Unknown u) (Unknown w) e = ap Unknown (eqb-true u w e)

-- ---- edges and links
pub edges_at-has : (from : Atom) (by : ℕ) (to : Atom) (links : List Link) → Contains links (link from by to) → Contains (edges_at from links) (edge by to)
edges_at-has from by to [] h = absurd (none_in_nil (link from by to) h)
edges_at-has from by to (l ∷ links) h =
    ⊎_elim
    (λ (is : l ≡ link from by to). subst (λ (x : Link). Contains (edges_at from (x ∷ links)) (edge by to)) (sym is) (rw (same-itself from) (Contains-first (edge by to) (edges_at from links))))
    (λ k. later (same from l.from) refl (edges_at-has from by to links k))
    (Contains-cons_cases l links (link from by to) h)
  where
    later : (t : Bool) → same from l.from ≡ t → Contains (edges_at from links) (edge by to) → Contains (edges_at from (l ∷ links)) (edge by to)
    later true e k = rw e (Contains-later (edge l.by l.to) (edges_at from links) (edge by to) k)
    later false e k = rw e k

pub edges_at-only : (from : Atom) (by : ℕ) (to : Atom) (links : List Link) → Contains (edges_at from links) (edge by to) → Contains links (link from by to)
edges_at-only from by to [] h = absurd (none_in_nil (edge by to) h)
edges_at-only from by to (l ∷ links) h = go (same from l.from) refl (edges_at-only from by to links)
  where
    go : (t : Bool) → same from l.from ≡ t → (Contains (edges_at from links) (edge by to) → Contains links (link from by to)) → Contains (l ∷ links) (link from by to)
    go true e more =
        let k : Contains (edge l.by l.to ∷ edges_at from links) (edge by to) = rw e at h in
        ⊎_elim
        (λ (is : edge l.by l.to ≡ edge by to).
        let same_link : link l.from l.by l.to ≡ link from by to =
        ap (λ f. link f l.by l.to) (sym (same-is from l.from e)) ∙ (ap (λ (x : Edge). link from x.by x.to) is) in
        subst (λ (x : Link). Contains (l ∷ links) x) same_link (Contains-first l links))
        (λ k'. Contains-later l links (link from by to) (more k'))
        (Contains-cons_cases (edge l.by l.to) (edges_at from links) (edge by to) k)
    go false e more = let k : Contains (edges_at from links) (edge by to) = rw e at h in Contains-later l links (link from by to) (more k)

-- a link of constraints is a part of a left side
pub record IsPart {T : Type 0} (cs : List (Constraint T)) (i : ℕ) (from to : Atom) : Type 0 where
  pub constraint : Constraint T
  pub at : slice_get cs i ≡ Some constraint
  pub part : Contains constraint.left.items from
  pub right : constraint.right ≡ to

pub links_of-only : {T : Type 0} (k : ℕ) (cs : List (Constraint T)) (from : Atom) (by : ℕ) (to : Atom) → Contains (links_of k cs) (link from by to) →
    (i : ℕ) × (by ≡ k + i) × IsPart cs i from to
links_of-only k [] from by to h = absurd (none_in_nil (link from by to) h)
links_of-only {T} k (c ∷ cs) from by to h =
    ⊎_elim
    (λ here.
    let found = contained_map_only (λ a. link a k c.right) c.left.items (link from by to) here in (
      0,
      sym (ap (λ (x : Link). x.by) found.2) ∙ sym (add-zero k),
      record {
        constraint = c;
        at = refl;
        part = subst (λ a. Contains c.left.items a) (ap (λ (x : Link). x.from) found.2) found.1;
        right = ap (λ (x : Link). x.to) found.2;
      },
    ))
    (λ later.
    let found = links_of-only (suc k) cs from by to later in
    (suc found.0, omega (arith, found.1), record { constraint = found.2.constraint; at = found.2.at; part = found.2.part; right = found.2.right }))
    (Contains-append_cases (left_links k c.right c.left.items) (links_of (suc k) cs) (link from by to) h)

pub links_of-has : {T : Type 0} (k : ℕ) (cs : List (Constraint T)) (i : ℕ) (c : Constraint T) (from : Atom) → slice_get cs i ≡ Some c → Contains c.left.items from →
    Contains (links_of k cs) (link from (k + i) c.right)
links_of-has k [] i c from at part = absurd (cc)
links_of-has {T} k (d ∷ cs) zero c from at part =
    let here : d ≡ c = same_Some d c at in
    subst (λ n. Contains (links_of k (d ∷ cs)) (link from n c.right)) (sym (add-zero k))
    (Contains-append_left (left_links k d.right d.left.items) (links_of (suc k) cs) (link from k c.right)
    (subst (λ (x : Constraint T). Contains (left_links k x.right x.left.items) (link from k c.right)) (sym here) (contained_map (λ a. link a k c.right) c.left.items from part)))
links_of-has {T} k (d ∷ cs) (suc i) c from at part =
    let e : suc k + i ≡ k + suc i = omega arith in
    Contains-append_right (left_links k d.right d.left.items) (links_of (suc k) cs) (link from (k + suc i) c.right)
    (subst (λ n. Contains (links_of (suc k) cs) (link from n c.right)) e (links_of-has (suc k) cs i c from at part))

pub leads-part : {T : Type 0} (cs : List (Constraint T)) (edges : Edges) → AreEdges cs edges → (from : Atom) (by : ℕ) (to : Atom) → LeadsTo edges from by to → IsPart cs by from to
leads-part {T} cs edges are from by to h =
    let found = links_of-only 0 cs from by to (edges_at-only from by to (links_of 0 cs) (subst (λ es. Contains es (edge by to)) (are.row from) h)) in
    subst (λ i. IsPart cs i from to) (sym (found.1 ∙ zero-add found.0)) found.2

pub part-leads : {T : Type 0} (cs : List (Constraint T)) (edges : Edges) → AreEdges cs edges → (i : ℕ) (c : Constraint T) (from : Atom) → slice_get cs i ≡ Some c →
    Contains c.left.items from → LeadsTo edges from i c.right
part-leads {T} cs edges are i c from at part =
    subst (λ es. Contains es (edge i c.right)) (sym (are.row from))
    (edges_at-has from i c.right (links_of 0 cs) (subst (λ n. Contains (links_of 0 cs) (link from n c.right)) (zero-add i) (links_of-has 0 cs i c from at part)))

-- ---- over the lattice
module _ {T V : Type 0} (l : Lattice V) (table : List V) (cs : List (Constraint T)) (edges : Edges) (are : AreEdges cs edges) (unknowns : ℕ) (range : InRange (length table) unknowns cs) where
  abbrev meant : List (formal.Constraint T ℕ V)
  meant = map (constraint_of l table) cs

  abbrev numbered : formal.Atom ℕ V → Atom → Type 0
  numbered a b = atom_of l table b ≡ a

  abbrev value_or : V → formal.Atom ℕ V → V
  value_or d (formal.Written w) = w
  value_or d (formal.Unknown u) = d

  abbrev number_or : ℕ → formal.Atom ℕ V → ℕ
  number_or d (formal.Written w) = d
  number_or d (formal.Unknown u) = u

  -- a part whose element or unknown is known
  pub written-is : (a : Atom) (v : V) → atom_of l table a ≡ formal.Written v → (n : ℕ) × (a ≡ Written n) × (written_at l table n ≡ v)
  written-is (Written n) v e = (n, refl, ap (value_or v) e)
  written-is (Unknown u) v e = absurd (cc)

  pub reaches-to : (n u : ℕ) → ReachesBy edges n u → Reaches meant (written_at l table n) u
  reaches-to n u (reach.directly by _ h) =
      let part = leads-part cs edges are (Written n) by (Unknown u) h in
      formal.directly (constraint_of l table part.constraint) u
      (contained_map (constraint_of l table) cs part.constraint (contained_at cs by part.constraint part.at))
      (contained_map (atom_of l table) part.constraint.left.items (Written n) part.part) (ap (atom_of l table) part.right)
  reaches-to n u (reach.onward by w _ r h) =
      let part = leads-part cs edges are (Unknown w) by (Unknown u) h in
      formal.onward (constraint_of l table part.constraint) w u (reaches-to n w r)
      (contained_map (constraint_of l table) cs part.constraint (contained_at cs by part.constraint part.at))
      (contained_map (atom_of l table) part.constraint.left.items (Unknown w) part.part) (ap (atom_of l table) part.right)

  pub in_table : (c : Constraint T) (n : ℕ) → Contains cs c → Contains c.left.items (Written n) → n < length table
  in_table c n h part =
      All-contains (IsBelow (length table) unknowns) c.left.items (Written n)
      ((All-contains (λ (c : Constraint T). AreBelow (length table) unknowns c.left.items × IsBelow (length table) unknowns c.right) cs c range h).0) part
