-- Private: what a written element reaches along edges, and the chains to it that a search finds.
-- Source: our own.
use Rattle.std.specs.Prelude.{◌≡◌, ℕ, suc, ◌<◌, ◌≤◌, List, [], ◌∷◌, ◌++◌, length, set, Bool, true, false, IsTrue, Contains, slice_index_or}
use Rattle.solver.specs.EdgeRows.{row_at}
use Rattle.solver.specs.Links.{edges_at, links_of}
use Rattle.solver.specs.declared.edges.Edge.{Edge}
use Rattle.solver.specs.declared.edges.Edges.{Edges}
use Rattle.solver.specs.declared.search.Found.{Found}
use Rattle.solver.specs.declared.constraints.Atom.{Atom}
use Rattle.solver.specs.declared.constraints.Atom.TheVariants.{Unknown, Written}
use Rattle.solver.specs.declared.constraints.Constraint.{Constraint}

-- the edges from an atom, and one of them
abbrev pub row_of : Edges → Atom → List Edge
row_of edges (Written n) = row_at edges.written n
row_of edges (Unknown u) = row_at edges.unknown u

abbrev pub edge : ℕ → Atom → Edge
edge by to = record { by = by; to = to }

abbrev pub LeadsTo : Edges → Atom → ℕ → Atom → Type 0
LeadsTo edges from by to = Contains (row_of edges from) (edge by to)

-- edges that are those of constraints
pub record AreEdges {T : Type 0} (cs : List (Constraint T)) (edges : Edges) : Type 0 where
  pub row : (from : Atom) → row_of edges from ≡ edges_at from (links_of 0 cs)

-- the unknowns to which edges lead lie below a count
abbrev pub LeadInside : ℕ → List Edge → Type 0
LeadInside count edges = (by u : ℕ) → Contains edges (edge by (Unknown u)) → u < count

abbrev pub AllLeadInside : Edges → Type 0
AllLeadInside edges = (from : Atom) → LeadInside (length edges.unknown) (row_of edges from)

-- a written element reaches an unknown along edges
pub data ReachesBy (edges : Edges) (n : ℕ) : ℕ → Type 0 where
  directly : (by u : ℕ) → LeadsTo edges (Written n) by (Unknown u) → ReachesBy edges n u
  onward : (by w u : ℕ) → ReachesBy edges n w → LeadsTo edges (Unknown w) by (Unknown u) → ReachesBy edges n u

abbrev pub nothing_found : Found
nothing_found = record { unknown = 0; by = 0; parent = 0 }

-- what was found is reached by an edge from here: the written element, or an unknown found earlier
pub data CameFrom (n : ℕ) (found : List Found) (before : ℕ) : ℕ → Atom → Type 0 where
  itself : CameFrom n found before 0 (Written n)
  earlier : (p u : ℕ) → p < before → (slice_index_or found p nothing_found).unknown ≡ u → CameFrom n found before (suc p) (Unknown u)

-- each thing found was found along an edge, from what was found before it
pub record IsStep (edges : Edges) (n : ℕ) (found : List Found) (k : ℕ) : Type 0 where
  pub from : Atom
  pub came : CameFrom n found k (slice_index_or found k nothing_found).parent from
  pub leads : LeadsTo edges from (slice_index_or found k nothing_found).by (Unknown (slice_index_or found k nothing_found).unknown)

abbrev pub IsTrail : Edges → ℕ → List Found → Type 0
IsTrail edges n found = (k : ℕ) → k < length found → IsStep edges n found k

-- some thing found is this unknown
abbrev pub Has : List Found → ℕ → Type 0
Has found u = (k : ℕ) × (k < length found) × ((slice_index_or found k nothing_found).unknown ≡ u)

-- all that a written element reaches, and no more
pub record IsTrace (edges : Edges) (n : ℕ) (found : List Found) : Type 0 where
  pub trail : IsTrail edges n found
  pub complete : (u : ℕ) → ReachesBy edges n u → Has found u

-- ---- while it searches: more is found along these edges, from one parent
pub data Grows (edges : List Edge) (parent : ℕ) (marks : List Bool) (found : List Found) : List Bool → List Found → Type 0 where
  same : Grows edges parent marks found marks found
  more : (marks' : List Bool) (found' : List Found) (by u : ℕ) → Grows edges parent marks found marks' found' →
      Contains edges (edge by (Unknown u)) → u < length marks' → slice_index_or marks' u false ≡ false →
      Grows edges parent marks found (set marks' u true) (found' ++ record { unknown = u; by = by; parent = parent } ∷ [])

-- all unknowns to which these edges lead are found
abbrev pub AllMarked : List Edge → List Bool → Type 0
AllMarked edges marks = (by u : ℕ) → Contains edges (edge by (Unknown u)) → IsTrue (slice_index_or marks u false)

-- ---- chains back: what was found came from what was found before it
abbrev pub ParentsFall : List Found → Type 0
ParentsFall found = (k : ℕ) → k < length found → (slice_index_or found k nothing_found).parent ≤ k

-- a constraint with this right side is entered from a parent
pub record EndsAt (edges : Edges) (n : ℕ) (found : List Found) (parent last : ℕ) (to : Atom) : Type 0 where
  pub from : Atom
  pub came : CameFrom n found (length found) parent from
  pub leads : LeadsTo edges from last to

-- edges joined one to the next by these constraints, from an atom to a last right side
pub data LeadsOn (edges : Edges) : Atom → List ℕ → (last : ℕ) → Atom → Type 0 where
  ends : (from to : Atom) (by : ℕ) → LeadsTo edges from by to → LeadsOn edges from (by ∷ []) by to
  goes_on : (from to : Atom) (by u last : ℕ) (rest : List ℕ) → LeadsTo edges from by (Unknown u) → LeadsOn edges (Unknown u) rest last to →
      LeadsOn edges from (by ∷ rest) last to
