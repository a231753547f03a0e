-- Private: inner constraints with one right side, put together to one whose left side has all of their parts; and one further unknown for
-- parts that flow to several.
-- Source: our own.
use Rattle.std.specs.Prelude.{◌≡◌, ◌⊎◌, ℕ, zero, suc, ◌+◌, ◌*◌, ◌<◌, ◌≤◌, List, [], ◌∷◌, ◌++◌, Contains, map, None}
use Rattle.labels.specs.Label.{Label}
use Rattle.resolved.specs.declared.program.Core.{Core}
use Rattle.resolved.specs.CoreOf.{program_of}
use Rattle.gathering.specs.Names.{real_unknowns}
use Rattle.solver.specs.declared.constraints.Atom.{Atom}
use Rattle.solver.specs.declared.constraints.Atom.TheVariants.{Unknown}
use Rattle.constraints.specs.Added.{Stored}
use Rattle.constraints.specs.Spreading.{Declares, IsSpreadWhole}
use Rattle.constraints.specs.declared.journal.Called.{Called}
use Rattle.constraints.specs.declared.journal.Journal.{Journal}
use Rattle.constraints.specs.declared.merging.Parts.{Parts}
use Rattle.constraints.specs.declared.spreading.Made.{Made}

-- a part flows to a right side by one of some constraints
pub record Flows (cs : List Stored) (part to : Atom) : Type 0 where
  pub by : Stored
  pub among : Contains cs by
  pub starts : Contains by.left.items part
  pub ends : by.right ≡ to

-- a path of flows to inner unknowns, which are those from a number on
pub data IsFollowed (real : ℕ) (base : List Stored) (from : Atom) : Atom → Type 0 where
  itself : (to : Atom) → from ≡ to → IsFollowed real base from to
  followed : (middle : Atom) (u : ℕ) → IsFollowed real base from middle → real ≤ u → Flows base middle (Unknown u) → IsFollowed real base from (Unknown u)

-- ---- the parts that are kept for each unknown
pub record Row : Type 0 where
  pub unknowns : List Atom
  pub written : List Atom

abbrev pub parts_at : List Row → (to : ℕ) → List Atom
parts_at [] to = []
parts_at (row ∷ rows) zero = row.unknowns ++ row.written
parts_at (row ∷ rows) (suc to) = parts_at rows to

abbrev pub unknowns_at : List Row → (to : ℕ) → List Atom
unknowns_at [] to = []
unknowns_at (row ∷ rows) zero = row.unknowns
unknowns_at (row ∷ rows) (suc to) = unknowns_at rows to

abbrev pub row_of : Parts → Row
row_of parts = record { unknowns = parts.unknowns.items; written = parts.written.items }

abbrev pub parts_of : Parts → List Atom
parts_of parts = parts.unknowns.items ++ parts.written.items

abbrev pub rows_of : List Parts → List Row
rows_of kept = map row_of kept

-- a part is there, or another one to which it flows on
pub record IsCovered (Over : Atom → Atom → Type 0) (parts : List Atom) (part : Atom) : Type 0 where
  pub by : Atom
  pub over : Over part by
  pub among : Contains parts by

-- parts with some more of them, of which one covers another
pub record HasMore (Over : Atom → Atom → Type 0) (more old new : List Atom) : Type 0 where
  pub stays : (part : Atom) → Contains old part → IsCovered Over new part
  pub goes : (part : Atom) → Contains more part → IsCovered Over new part
  pub came : (part : Atom) → Contains new part → Contains old part ⊎ Contains more part

-- constraints were taken: some stay as they are, and the parts of the others are kept for their right sides
pub record AreTaken (Over : Atom → Atom → Type 0) (taken : List Stored) (old_rows rows : List Row) (old new : List Stored) : Type 0 where
  pub rest : List Stored
  pub rest_is : new ≡ old ++ rest
  pub only : (c : Stored) → Contains rest c → Contains taken c
  pub stays : (k : ℕ) (part : Atom) → Contains (parts_at old_rows k) part → IsCovered Over (parts_at rows k) part
  pub goes : (part to : Atom) → Flows taken part to → Flows rest part to ⊎ ((k : ℕ) × (to ≡ Unknown k) × IsCovered Over (parts_at rows k) part)
  pub came : (k : ℕ) (part : Atom) → Contains (parts_at rows k) part → Contains (parts_at old_rows k) part ⊎ Flows taken part (Unknown k)

-- some constraints were taken, of which this holds
pub record AreSomeTaken (Over : Atom → Atom → Type 0) (Holds : List Stored → Type 0) (old_rows rows : List Row) (old new : List Stored) : Type 0 where
  pub own : List Stored
  pub holds : Holds own
  pub are_taken : AreTaken Over own old_rows rows old new

-- an inner constraint with some part
abbrev pub IsInnerWithPart : Stored → Type 0
IsInnerWithPart c = (c.target ≡ None) × ((part : Atom) × Contains c.left.items part)

-- those that are kept for an unknown were laid out as a constraint, where there are some
pub record IsLaidOut (k : ℕ) (parts : List Atom) (old new : List Stored) : Type 0 where
  pub laid : List Stored
  pub laid_is : new ≡ old ++ laid
  pub goes : (part : Atom) → Contains parts part → Flows laid part (Unknown k)
  pub came : (part to : Atom) → Flows laid part to → (to ≡ Unknown k) × Contains parts part
  pub inner : (c : Stored) → Contains laid c → IsInnerWithPart c

-- ---- further unknowns, with numbers in a range, each of which stands for parts that flow to several unknowns
-- a part flows straight to a right side, or by one unknown
abbrev pub FlowsOn : List Stored → (part to : Atom) → Type 0
FlowsOn cs part to = Flows cs part to ⊎ ((u : ℕ) × Flows cs part (Unknown u) × Flows cs (Unknown u) to)

-- what a further unknown stands for flows to this
pub record IsPassedOn (Goes : Atom → Atom → Type 0) (first next : ℕ) (stands : ℕ → List Atom) (part to : Atom) : Type 0 where
  pub by : ℕ
  pub is : part ≡ Unknown by
  pub from_first : first ≤ by
  pub below_next : by < next
  pub some : (one : Atom) × Contains (stands by) one
  pub each : (one : Atom) → Contains (stands by) one → Goes one to

-- this is a further unknown, and stands for a part that flows somewhere
pub record StandsForPart (Goes : Atom → Atom → Type 0) (first next : ℕ) (stands : ℕ → List Atom) (part to : Atom) : Type 0 where
  pub by : ℕ
  pub is : to ≡ Unknown by
  pub from_first : first ≤ by
  pub below_next : by < next
  pub stands_for : Contains (stands by) part
  pub end : Atom
  pub goes : Goes part end

abbrev pub ComesOf : (Goes : Atom → Atom → Type 0) → (first next : ℕ) → (stands : ℕ → List Atom) → (part to : Atom) → Type 0
ComesOf Goes first next stands part to =
    Goes part to ⊎ (IsPassedOn Goes first next stands part to ⊎ StandsForPart Goes first next stands part to)

-- a part that is kept for an unknown
abbrev pub IsPartKept : List Row → (part to : Atom) → Type 0
IsPartKept rows part to = (k : ℕ) × (to ≡ Unknown k) × Contains (parts_at rows k) part

-- the parts that are kept for the unknowns below a number were laid out
pub record AreLaidOut (rows : List Row) (below first next : ℕ) (old new : List Stored) : Type 0 where
  pub laid : List Stored
  pub laid_is : new ≡ old ++ laid
  pub stands : ℕ → List Atom
  pub least : first ≤ next
  pub goes : (k : ℕ) → k < below → (part : Atom) → Contains (parts_at rows k) part → FlowsOn laid part (Unknown k)
  pub came : (part to : Atom) → Flows laid part to → ComesOf (IsPartKept rows) first next stands part to
  pub inner : (c : Stored) → Contains laid c → IsInnerWithPart c

-- a part flows on, or what it flows on to
pub record FlowsOver (Over : Atom → Atom → Type 0) (cs : List Stored) (part to : Atom) : Type 0 where
  pub by : Atom
  pub over : Over part by
  pub goes : FlowsOn cs by to

-- constraints by which the same flows as by others, straight or by further unknowns, but for what flows there anyway
pub record HaveSameFlows (Over : Atom → Atom → Type 0) (first next : ℕ) (others shared : List Stored) : Type 0 where
  pub stands : ℕ → List Atom
  pub goes : (part to : Atom) → Flows others part to → FlowsOver Over shared part to
  pub came : (part to : Atom) → Flows shared part to → ComesOf (Flows others) first next stands part to
  pub inner : (c : Stored) → Contains shared c → Contains others c ⊎ IsInnerWithPart c

-- the flows of the exceptions of calls were spread and taken
pub record AreSpreadSoFar (Over : Atom → Atom → Type 0) (core : Core) (table : List Label) (journal : Journal) (calls : List Called) (start rows : List Row) (old new : Made) : Type 0 where
  pub spread : List Stored
  pub are_spread : IsSpreadWhole core table journal (Declares core) calls old.number new.number spread
  pub are_taken : AreTaken Over spread start rows old.constraints.items new.constraints.items

-- the flows of the exceptions of calls were added, put together by their right sides, and those that go together by further unknowns
pub record AreSpreadShared (core : Core) (table : List Label) (journal : Journal) (calls : List Called) (old new : Made) : Type 0 where
  pub spread : List Stored
  pub next : ℕ
  pub least : next ≤ new.number
  pub few : 2 * new.number ≤ 2 * next + old.number + 1
  pub are_spread : IsSpreadWhole core table journal (Declares core) calls old.number next spread
  pub shared : List Stored
  pub shared_is : new.constraints.items ≡ old.constraints.items ++ shared
  pub are_shared : HaveSameFlows (IsFollowed (real_unknowns (program_of core)) old.constraints.items) next new.number spread shared
