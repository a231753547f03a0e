-- Private: what parts, left sides and constraints stand for by the table of a program's labels.
-- Source: our own.
use Rattle.std.specs.Prelude.{ℕ, List}
use Rattle.labels.specs.Label.{Label}
use Rattle.resolved.specs.CoreOf.{program_of}
use Rattle.resolved.specs.Labelled.{Join, Scope}
use Rattle.resolved.specs.Program.{Program}
use Rattle.gathering.specs.Names.{NamedAtom, NamedConstraint}
use Rattle.solver.specs.declared.constraints.Atom.{Atom}
use Rattle.constraints.specs.Added.{AreAdded, IsGatheredAt, IsLeft, IsLeftFrom, IsPart, Stored}
use Rattle.constraints.specs.LeftSides.{IsJoined, scope_of}
use Rattle.constraints.specs.declared.table.Table.{Table}

-- the program of a table, a procedure of it by its number, and its written labels
abbrev pub program_in : Table → Program
program_in table = program_of table.core.now

abbrev pub scope_at : Table → (procedure : ℕ) → Scope
scope_at table procedure = scope_of table.core.now procedure

abbrev pub labels_in : Table → List Label
labels_in table = table.core.now.labels

-- an atom stands for a part, and a left side for parts
abbrev pub IsPartBy : Table → NamedAtom → Atom → Type 0
IsPartBy table = IsPart table.core.now (labels_in table)

abbrev pub IsLeftBy : Table → List NamedAtom → List Atom → Type 0
IsLeftBy table = IsLeft table.core.now (labels_in table)

abbrev pub IsLeftFromBy : Table → (pc : Atom) → Join → List Atom → Type 0
IsLeftFromBy table = IsLeftFrom table.core.now (labels_in table)

-- the labels of a join were added to a left side
abbrev pub IsJoinedBy : Table → Join → (old new : List Atom) → Type 0
IsJoinedBy table = IsJoined table.core.now (labels_in table)

-- constraints were added, and what is gathered at a pc
abbrev pub AreAddedBy : Table → (added : List NamedConstraint) → (old new : List Stored) → Type 0
AreAddedBy table = AreAdded table.core.now (labels_in table)

abbrev pub IsGatheredBy : Table → (pc : Atom) → (NamedAtom → List NamedConstraint) → (old new : List Stored) → Type 0
IsGatheredBy table = IsGatheredAt table.core.now (labels_in table)
