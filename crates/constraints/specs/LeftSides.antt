-- Private: what a stored part of a constraint stands for, by the table of written labels: the label that the table has under its number, or
-- an unknown by its number.
-- Source: our own.
use Rattle.std.specs.Prelude.{◌≡◌, ℕ, List, [], ◌++◌, length, map, nat_lt, Option, Some, slice_get, if◌then◌else◌}
use Rattle.labels.specs.Label.{Label}
use Rattle.lattices.specs.Constraints.{renamed}
use Rattle.lattices.specs.Constraints as formal
use Rattle.resolved.specs.declared.program.Core.{Core}
use Rattle.resolved.specs.declared.target.Target.{Target}
use Rattle.resolved.specs.CoreOf.{program_of}
use Rattle.resolved.specs.Program.{Program, procedure_at}
use Rattle.resolved.specs.Tree.{Expression}
use Rattle.resolved.specs.Exits.{index_can_raise}
use Rattle.resolved.specs.Labelled.{Join, OfLocal, OfLoop, Scope, Unwritten, label_of, value_label}
use Rattle.gathering.specs.Names.{Inner, NamedAtom, Real, named_atoms, unwritten_number}
use Rattle.gathering.specs.Walk.{raise_atoms}
use Rattle.solver.specs.declared.constraints.Atom.{Atom}
use Rattle.solver.specs.declared.constraints.Atom.TheVariants as stored

-- a label, or none where the table has none under the number; or an unknown
abbrev pub Part : Type 0
Part = formal.Atom ℕ (Option Label)

abbrev pub Written : Label → Part
Written label = formal.Written (Some label)

abbrev pub Unknown : ℕ → Part
Unknown number = formal.Unknown number

abbrev pub part : (table : List Label) → Atom → Part
part table (stored.Written n) = formal.Written (slice_get table n)
part table (stored.Unknown u) = Unknown u

abbrev pub left_parts : (table : List Label) → List Atom → List Part
left_parts table atoms = map (part table) atoms

-- the part that a label is to stand for: one that is not written is the unknown with its number, and one that the program has not, as
-- no well-formed program asks for it, is empty
abbrev pub unwritten_part : Program → Unwritten → Part
unwritten_part program (OfLocal f n) =
    if nat_lt n (length (procedure_at program f).slots) then Unknown (unwritten_number program (OfLocal f n)) else Written []
unwritten_part program (OfLoop f loop) =
    if nat_lt loop (procedure_at program f).loops then Unknown (unwritten_number program (OfLoop f loop)) else Written []

abbrev pub wanted_part : Program → NamedAtom → Part
wanted_part program (formal.Written label) = Written label
wanted_part program (formal.Unknown (Real u)) = unwritten_part program u
wanted_part program (formal.Unknown (Inner k)) = Unknown k

-- the label of what a rule names, and the labels of a join
abbrev pub part_of : Program → Target → Part
part_of program target = wanted_part program (renamed Real (label_of program target))

abbrev pub joined : Program → Join → List Part
joined program join = map (wanted_part program) (named_atoms join)

-- a procedure of a program, by its number
abbrev pub scope_of : Core → (procedure : ℕ) → Scope
scope_of core procedure = record { program = program_of core; number = procedure }

-- the labels of a join were added to a left side
abbrev pub IsJoined : Core → (table : List Label) → Join → (old new : List Atom) → Type 0
IsJoined core table join old new =
    left_parts table new ≡ left_parts table old ++ joined (program_of core) join

-- what decides whether the index of an array of this length raises an exception
abbrev pub index_atoms : Scope → (length : ℕ) → Expression → Join
index_atoms scope length index = if index_can_raise index length then value_label scope index else raise_atoms scope index
