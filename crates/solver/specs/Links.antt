-- The links of constraints: from each part of a left side, by its constraint, to the right side.
-- Source: our own.
use Rattle.std.specs.Prelude.{ℕ, suc, ◌<◌, List, [], ◌∷◌, ◌++◌, map, Bool, false, nat_eq, if◌then◌else◌, All}
use Rattle.solver.specs.declared.edges.Edge.{Edge}
use Rattle.solver.specs.declared.constraints.Atom.{Atom}
use Rattle.solver.specs.declared.constraints.Atom.TheVariants.{Unknown, Written}
use Rattle.solver.specs.declared.constraints.Constraint.{Constraint}

-- a link: from a part of a left side, by a constraint's index, to its right side
pub record Link : Type 0 where
  pub from : Atom
  pub by : ℕ
  pub to : Atom

abbrev pub link : Atom → ℕ → Atom → Link
link from by to = record { from = from; by = by; to = to }

-- an atom's number lies below these counts
abbrev pub IsBelow : (written unknowns : ℕ) → Atom → Type 0
IsBelow written unknowns (Written n) = n < written
IsBelow written unknowns (Unknown u) = u < unknowns

abbrev pub AreBelow : (written unknowns : ℕ) → List Atom → Type 0
AreBelow written unknowns atoms = All (IsBelow written unknowns) atoms

-- so do all atoms of constraints
abbrev pub InRange : {T : Type 0} → (written unknowns : ℕ) → List (Constraint T) → Type 0
InRange {T} written unknowns constraints =
    All (λ (c : Constraint T). AreBelow written unknowns c.left.items × IsBelow written unknowns c.right) constraints

-- the links of one left side, and of constraints from an index on
abbrev pub left_links : ℕ → Atom → List Atom → List Link
left_links by to left = map (λ atom. link atom by to) left

abbrev pub links_of : {T : Type 0} → ℕ → List (Constraint T) → List Link
links_of by [] = []
links_of by (c ∷ rest) = left_links by c.right c.left.items ++ links_of (suc by) rest

-- whether two atoms are the same
abbrev pub same : Atom → Atom → Bool
same (Written n) (Written m) = nat_eq n m
same (Written n) (Unknown u) = false
same (Unknown u) (Written n) = false
same (Unknown u) (Unknown w) = nat_eq u w

-- the edges of the links from an atom
abbrev pub edges_at : Atom → List Link → List Edge
edges_at from [] = []
edges_at from (link ∷ rest) =
    if same from link.from then (record { by = link.by; to = link.to } ∷ edges_at from rest) else edges_at from rest
