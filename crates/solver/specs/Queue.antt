-- Private: No public clause cites it. Constraints that wait, each once: which do, and in which order.
-- Source: our own.
use Rattle.std.specs.Prelude.{◌≡◌, ℕ, ◌+◌, ◌≤◌, List, [], ◌∷◌, ◌++◌, length, drop, set, Bool, false, IsTrue, Option, Some, None, slice_index_or, slice_get, Contains, ◌⊎◌}
use Rattle.solver.specs.Reach.{edge}
use Rattle.solver.specs.Looks.{count_of}
use Rattle.solver.specs.declared.edges.Edge.{Edge}
use Rattle.solver.specs.declared.constraints.Atom.TheVariants.{Unknown}
use Rattle.solver.specs.declared.constraints.Constraint.{Constraint}
use Rattle.solver.specs.declared.waiting.Waiting.{Waiting}

-- whether a constraint waits
abbrev pub flag : List Bool → ℕ → Bool
flag waits i = slice_index_or waits i false

-- numbers that wait, in their order
abbrev pub order_in : Waiting → List ℕ
order_in waiting = drop waiting.taken waiting.first.items ++ waiting.later.items

-- the right side of a constraint is an unknown
pub record RightIsUnknown {T : Type 0} (cs : List (Constraint T)) (i : ℕ) : Type 0 where
  pub constraint : Constraint T
  pub at : slice_get cs i ≡ Some constraint
  pub unknown : ℕ
  pub right : constraint.right ≡ Unknown unknown

-- the constraints of some edges whose right side is an unknown wait too, and no others
pub record Added (edges : List Edge) (waits : List Bool) (order : List ℕ) (waits' : List Bool) (order' : List ℕ) : Type 0 where
  pub count : length waits' ≡ length waits
  pub kept : (i : ℕ) → IsTrue (flag waits i) → IsTrue (flag waits' i)
  pub marked : (i u : ℕ) → Contains edges (edge i (Unknown u)) → IsTrue (flag waits' i)
  pub listed : (i : ℕ) → IsTrue (flag waits' i) → IsTrue (flag waits i) ⊎ Contains order' i
  pub waiting : (i : ℕ) → Contains order i → Contains order' i
  pub only : (i : ℕ) → Contains order' i → Contains order i ⊎ ((u : ℕ) × Contains edges (edge i (Unknown u)))
  pub at_least : length order ≤ length order'
  pub at_most : length order' ≤ length order + length edges

-- the constraints that wait at first: each once
pub record IsSeeded {T : Type 0} (cs : List (Constraint T)) (waits : List Bool) (order : List ℕ) : Type 0 where
  pub count : length waits ≡ length cs
  pub counted : count_of (λ b. b) waits ≡ length order
  pub listed : (i : ℕ) → IsTrue (flag waits i) → Contains order i
  pub marked : (i : ℕ) → IsTrue (flag waits i) → RightIsUnknown cs i
  pub rights : (i : ℕ) → Contains order i → RightIsUnknown cs i

-- one more constraint waits, if there is one whose right side is an unknown
pub record Seeds {T : Type 0} (cs : List (Constraint T)) (by : ℕ) (waits waits' : List Bool) : Type 0 where
  pub kept : (i : ℕ) → IsTrue (flag waits i) → IsTrue (flag waits' i)
  pub marked : RightIsUnknown cs by → IsTrue (flag waits' by)

-- all constraints whose right side is an unknown wait
pub record AllSeeded {T : Type 0} (cs : List (Constraint T)) (waits : List Bool) (order : List ℕ) : Type 0 where
  pub seeded : IsSeeded cs waits order
  pub all : (i : ℕ) → RightIsUnknown cs i → IsTrue (flag waits i)

-- the first that waited does not wait any more
pub data IsNext (waits : List Bool) (order : List ℕ) : List Bool → List ℕ → Option ℕ → Type 0 where
  none : order ≡ [] → IsNext waits order waits order None
  some : (i : ℕ) (rest : List ℕ) → order ≡ i ∷ rest → IsNext waits order (set waits i false) rest (Some i)
