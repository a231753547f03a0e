-- The constraints with a written right side that one written element breaks, and the earliest of them.
-- Source: our own.
use Rattle.std.specs.Prelude.{ℕ, suc, ◌<◌, List, [], ◌∷◌, ◌++◌, length, Bool, true, Option, Some, None, if◌then◌else◌, Contains, slice_index_or, nat_lt}
use Rattle.lattices.specs.Lattice.{Lattice}
use Rattle.solver.specs.Reach.{edge, nothing_found, row_of}
use Rattle.solver.specs.declared.broken.Broken.{Broken}
use Rattle.solver.specs.declared.edges.Edge.{Edge}
use Rattle.solver.specs.declared.edges.Edges.{Edges}
use Rattle.solver.specs.declared.search.Found.{Found}
use Rattle.solver.specs.declared.constraints.Atom.{Atom}
use Rattle.solver.specs.declared.constraints.Atom.TheVariants.{Unknown, Written}

-- the written element of a number, and whether one lies below another
abbrev pub written_at : {V : Type 0} → Lattice V → List V → ℕ → V
written_at l table n = slice_index_or table n l.least

abbrev pub is_below : {V : Type 0} → Lattice V → List V → ℕ → ℕ → Bool
is_below l table n m = l.leq (written_at l table n) (written_at l table m)

-- written right sides lie inside the table
abbrev pub RightsInside : ℕ → List Edge → Type 0
RightsInside count edges = (by n : ℕ) → Contains edges (edge by (Written n)) → n < count

abbrev pub AllRightsInside : ℕ → Edges → Type 0
AllRightsInside count edges = (from : Atom) → RightsInside count (row_of edges from)

-- so do the unknowns that were found
abbrev pub FoundInside : ℕ → List Found → Type 0
FoundInside count found = (k : ℕ) → k < length found → (slice_index_or found k nothing_found).unknown < count

-- what a written element that came from a parent breaks along edges
abbrev pub broken_by : (below : ℕ → ℕ → Bool) → (value parent by : ℕ) → Atom → List Broken
broken_by below value parent by (Unknown u) = []
broken_by below value parent by (Written to) =
    if below value to then [] else (record { by = by; to = to; value = value; parent = parent } ∷ [])

abbrev pub candidates : (below : ℕ → ℕ → Bool) → (value parent : ℕ) → List Edge → List Broken
candidates below value parent [] = []
candidates below value parent (e ∷ edges) = broken_by below value parent e.by e.to ++ candidates below value parent edges

-- along the edges from what was found, from an index on
abbrev pub found_candidates : Edges → (below : ℕ → ℕ → Bool) → (value k : ℕ) → List Found → List Broken
found_candidates edges below value k [] = []
found_candidates edges below value k (f ∷ found) =
    candidates below value (suc k) (row_of edges (Unknown f.unknown)) ++ found_candidates edges below value (suc k) found

-- the earliest, of equals the first
abbrev pub precedes : ℕ → Option Broken → Bool
precedes by None = true
precedes by (Some best) = nat_lt by best.by

abbrev pub earlier : Option Broken → Broken → Option Broken
earlier best candidate = if precedes candidate.by best then Some candidate else best

abbrev pub earliest : Option Broken → List Broken → Option Broken
earliest best [] = best
earliest best (candidate ∷ rest) = earliest (earlier best candidate) rest
