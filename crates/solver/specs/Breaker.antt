-- Private: the constraints with a written right side that a written element breaks: by rows of bits, and along edges with a chain.
-- Source: our own.
use Rattle.std.specs.Prelude.{◌≡◌, ℕ, ◌<◌, ◌≤◌, List, Bool, true, false, Option, Some, None, IsTrue, Contains, slice_get}
use Rattle.labels.specs.Row.{has}
use Rattle.solver.specs.Reach.{LeadsTo, LeadsOn, ReachesBy, edge}
use Rattle.solver.specs.Rows.{left_has}
use Rattle.solver.specs.declared.edges.Edge.{Edge}
use Rattle.solver.specs.declared.edges.Edges.{Edges}
use Rattle.solver.specs.declared.constraints.Atom.{Atom}
use Rattle.solver.specs.declared.constraints.Atom.TheVariants.{Unknown, Written}
use Rattle.solver.specs.declared.constraints.Constraint.{Constraint}

-- an element reaches a left side, and does not lie below the written right side
pub record BreaksSides (below : ℕ → ℕ → Bool) (rows : List (List Bool)) (left : List Atom) (right : Atom) (n : ℕ) : Type 0 where
  pub to : ℕ
  pub is : right ≡ Written to
  pub member : IsTrue (left_has rows left n)
  pub fails : below n to ≡ false

-- so it is of the constraint at an index
pub record Breaks {T : Type 0} (below : ℕ → ℕ → Bool) (rows : List (List Bool)) (cs : List (Constraint T)) (n i : ℕ) : Type 0 where
  pub constraint : Constraint T
  pub at : slice_get cs i ≡ Some constraint
  pub sides : BreaksSides below rows constraint.left.items constraint.right n

-- no element below a count breaks a constraint below an index
abbrev pub NoneBreaks : {T : Type 0} → (below : ℕ → ℕ → Bool) → (count : ℕ) → List (List Bool) → List (Constraint T) → (bound : ℕ) → Type 0
NoneBreaks below count rows cs bound = (n i : ℕ) → n < count → i < bound → Breaks below rows cs n i → ⊥

-- an element that breaks the first constraint that is broken, or nothing where none is
pub record BreaksFirst {T : Type 0} (below : ℕ → ℕ → Bool) (count : ℕ) (rows : List (List Bool)) (cs : List (Constraint T)) (n : ℕ) : Type 0 where
  pub inside : n < count
  pub index : ℕ
  pub breaks : Breaks below rows cs n index
  pub before : NoneBreaks below count rows cs index

abbrev pub IsFirstBreaker : {T : Type 0} → (below : ℕ → ℕ → Bool) → (count : ℕ) → List (List Bool) → List (Constraint T) → Option ℕ → Type 0
IsFirstBreaker below count rows cs None = (n i : ℕ) → n < count → Breaks below rows cs n i → ⊥
IsFirstBreaker below count rows cs (Some n) = BreaksFirst below count rows cs n

-- an element that breaks a constraint with these sides, or none where none does
abbrev pub IsBreakerOf : (below : ℕ → ℕ → Bool) → (count : ℕ) → List (List Bool) → List Atom → Atom → Option ℕ → Type 0
IsBreakerOf below count rows left right None = (n : ℕ) → n < count → BreaksSides below rows left right n → ⊥
IsBreakerOf below count rows left right (Some n) = (n < count) × BreaksSides below rows left right n

-- a number of a row breaks the constraint of an edge
pub record EdgeBreaks (below : ℕ → ℕ → Bool) (row : List Bool) (along : Edge) (i : ℕ) : Type 0 where
  pub to : ℕ
  pub is : along ≡ edge i (Written to)
  pub n : ℕ
  pub member : IsTrue (has row n)
  pub fails : below n to ≡ false

-- of one of some edges
pub record RowBreaks (below : ℕ → ℕ → Bool) (row : List Bool) (edges : List Edge) (i : ℕ) : Type 0 where
  pub along : Edge
  pub there : Contains edges along
  pub breaks : EdgeBreaks below row along i

-- a written right side above all numbers of a row
abbrev pub IsAboveRow : (below : ℕ → ℕ → Bool) → (row : List Bool) → (to : ℕ) → Type 0
IsAboveRow below row to = (n : ℕ) → IsTrue (has row n) → below n to ≡ true

-- an element that reaches a part, of those with numbers below a count, breaks the constraint of an edge from it
pub record PartBreaks (edges : Edges) (below : ℕ → ℕ → Bool) (part : ℕ → Atom) (reaches : (k n : ℕ) → Bool) (count i : ℕ) : Type 0 where
  pub k : ℕ
  pub inside : k < count
  pub n : ℕ
  pub member : IsTrue (reaches k n)
  pub to : ℕ
  pub leads : LeadsTo edges (part k) i (Written to)
  pub fails : below n to ≡ false

-- the first constraint before one that is broken, or else that one
pub record IsFirstOf (breaks : ℕ → Type 0) (before first : ℕ) : Type 0 where
  pub most : first ≤ before
  pub none : (i : ℕ) → i < first → breaks i → ⊥
  pub broken : first < before → breaks first

-- an element reaches an atom along edges
pub data Arrives (edges : Edges) (n : ℕ) : Atom → Type 0 where
  itself : Arrives edges n (Written n)
  onward : (u : ℕ) → ReachesBy edges n u → Arrives edges n (Unknown u)

-- an element breaks a constraint along edges
pub record BreaksAlong (edges : Edges) (below : ℕ → ℕ → Bool) (n i : ℕ) : Type 0 where
  pub from : Atom
  pub arrives : Arrives edges n from
  pub to : ℕ
  pub leads : LeadsTo edges from i (Written to)
  pub fails : below n to ≡ false

-- a chain from an element to the first constraint that it breaks
pub record IsBreakChain (edges : Edges) (below : ℕ → ℕ → Bool) (n : ℕ) (chain : List ℕ) : Type 0 where
  pub last : ℕ
  pub to : ℕ
  pub leads : LeadsOn edges (Written n) chain last (Written to)
  pub fails : below n to ≡ false
  pub first : (i : ℕ) → BreaksAlong edges below n i → last ≤ i
