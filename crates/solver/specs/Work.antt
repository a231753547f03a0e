-- Private: No public clause cites it. A work list: rows that grow, and constraints that wait to be looked at, until none does.
-- Source: our own.
use Rattle.std.specs.Prelude.{◌≡◌, ◌≢◌, ℕ, ◌+◌, ◌*◌, ◌-◌, ◌^◌, ◌<◌, ◌≤◌, ◌||◌, List, [], ◌∷◌, length, set, Bool, true, false, IsTrue, Option, Some, None, slice_get, slice_index_or, Contains}
use Rattle.labels.specs.Row.{Includes, has}
use Rattle.solver.specs.Looks.{count_of, looked_at, unknowns_left, written_left}
use Rattle.solver.specs.Queue.{RightIsUnknown, flag}
use Rattle.solver.specs.Reach.{ReachesBy}
use Rattle.solver.specs.Rows.{AreSized, has_at, left_has}
use Rattle.solver.specs.declared.edges.Edge.{Edge}
use Rattle.solver.specs.declared.edges.Edges.{Edges}
use Rattle.solver.specs.declared.constraints.Atom.{Atom}
use Rattle.solver.specs.declared.constraints.Atom.TheVariants.{Unknown}
use Rattle.solver.specs.declared.constraints.Constraint.{Constraint}

-- how often constraints may still come to wait: for each unknown, once for each of its edges and each number that is not in its row
abbrev pub room : (most : ℕ) → List (List Edge) → List (List Bool) → ℕ
room most [] rows = 0
room most (es ∷ edges) [] = 0
room most (es ∷ edges) (row ∷ rows) = (most - count_of (λ b. b) row) * length es + room most edges rows

-- a row with the numbers of another one, which has no more, or nothing where it has none that are new
pub record Grown (own more row : List Bool) : Type 0 where
  pub short : length row ≡ length more
  pub members : (n : ℕ) → has row n ≡ (has more n || has own n)
  pub larger : count_of (λ b. b) own < count_of (λ b. b) row

abbrev pub IsGrown : (own more : List Bool) → Option (List Bool) → Type 0
IsGrown own more None = Includes own more
IsGrown own more (Some row) = Grown own more row

-- the row of an unknown with all that a left side has, or nothing where it has that already
pub record IsMore (rows : List (List Bool)) (count u : ℕ) (left : List Atom) (row : List Bool) : Type 0 where
  pub short : length row ≤ count
  pub members : (n : ℕ) → has row n ≡ (has (slice_index_or rows u []) n || left_has rows left n)
  pub larger : count_of (λ b. b) (slice_index_or rows u []) < count_of (λ b. b) row

abbrev pub MayBeMore : (rows : List (List Bool)) (count u : ℕ) (left : List Atom) → Option (List Bool) → Type 0
MayBeMore rows count u left None = (n : ℕ) → IsTrue (left_has rows left n) → IsTrue (has_at rows u n)
MayBeMore rows count u left (Some row) = IsMore rows count u left row

-- the rows after all that a left side has came to that of an unknown, and whether it lacked some of it
pub record IsBroughtTo (rows : List (List Bool)) (count u : ℕ) (left : List Atom) (rows' : List (List Bool)) : Type 0 where
  pub row : List Bool
  pub more : IsMore rows count u left row
  pub put : rows' ≡ set rows u row

abbrev pub IsBrought : (rows : List (List Bool)) (count u : ℕ) (left : List Atom) (rows' : List (List Bool)) → Bool → Type 0
IsBrought rows count u left rows' true = IsBroughtTo rows count u left rows'
IsBrought rows count u left rows' false = (rows' ≡ rows) × MayBeMore rows count u left None

-- each constraint whose right side is an unknown waits or fits, but one that may do neither
pub record IsWork {T : Type 0} (cs : List (Constraint T)) (edges : Edges) (rows : List (List Bool)) (waits : List Bool) (order : List ℕ) (but : ℕ) : Type 0 where
  pub all : length rows ≡ length edges.unknown
  pub sized : AreSized (length edges.written) rows
  pub sound : (u n : ℕ) → IsTrue (has_at rows u n) → ReachesBy edges n u
  pub count : length waits ≡ length cs
  pub listed : (i : ℕ) → IsTrue (flag waits i) → Contains order i
  pub rights : (i : ℕ) → Contains order i → RightIsUnknown cs i
  pub settled : (i : ℕ) (c : Constraint T) (u n : ℕ) → slice_get cs i ≡ Some c → c.right ≡ Unknown u → i ≢ but → flag waits i ≡ false →
      IsTrue (left_has rows c.left.items n) → IsTrue (has_at rows u n)

-- the bounds of the number of looks so far
pub record AreSoFar {T : Type 0} (cs : List (Constraint T)) (edges : Edges) (rows : List (List Bool)) (order : List ℕ) (looks : ℕ) : Type 0 where
  pub at_least : looked_at cs ≤ looks + length order
  pub at_most : looks + length order + room (written_left cs 0 (length edges.written)) edges.unknown rows
      ≤ looked_at cs + written_left cs 0 (length edges.written) * unknowns_left cs
  pub greatest : looks < 2 ^ 64
