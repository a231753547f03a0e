-- Private: the stored parts that stand for the labels of a program's tables.
-- Source: our own.
use Rattle.std.specs.Prelude.{◌≡◌, ℕ, suc, ◌+◌, List, [], ◌∷◌, map, length, Option, Some, None, slice_index_or, if◌then◌else◌, ◌==◌}
use Rattle.labels.specs.Label.{Label}
use Rattle.resolved.specs.declared.program.Core.{Core}
use Rattle.resolved.specs.CoreOf.{program_of}
use Rattle.resolved.specs.Program.{ProcedureEntry, SlotEntry, ThrownEntry, procedure_at}
use Rattle.resolved.specs.Exits.{declared_by}
use Rattle.resolved.specs.Labelled.{result_label}
use Rattle.gathering.specs.Names.{own_unknowns, unknowns_before}
use Rattle.solver.specs.declared.constraints.Atom.{Atom}
use Rattle.solver.specs.declared.constraints.Atom.TheVariants as stored
use Rattle.constraints.specs.LeftSides.{Part, Unknown, Written, part, left_parts}
use Rattle.constraints.specs.declared.rows.ProcedureLabels.{ProcedureLabels}
use Rattle.constraints.specs.declared.rows.ThrownLabel.{ThrownLabel}

-- a label that is written, or an unknown
abbrev pub written_part : Option Label → (number : ℕ) → Part
written_part (Some label) number = Written label
written_part None number = Unknown number

-- those of slots, of which the first has this number
abbrev pub slot_parts : (first : ℕ) → List SlotEntry → List Part
slot_parts first [] = []
slot_parts first (slot ∷ rest) = written_part slot.written first ∷ slot_parts (suc first) rest

-- those of declared exceptions
abbrev pub thrown_parts : (table : List Label) → List ThrownLabel → List Part
thrown_parts table labels = map (λ (thrown : ThrownLabel). part table thrown.label) labels

-- a row stands for a procedure whose own unknowns have numbers from the first on
pub record IsRow (table : List Label) (first : ℕ) (procedure : ProcedureEntry) (row : ProcedureLabels) : Type 0 where
  pub begin_is : part table row.begin ≡ Written procedure.begin_label
  pub end_is : part table row.end ≡ Written procedure.end_label
  pub value_is : part table row.value ≡ Written (result_label procedure.result)
  pub slots_are : left_parts table row.slots.items ≡ slot_parts first procedure.slots
  pub exceptions_are : map (λ (thrown : ThrownLabel). thrown.exception) row.throws.items ≡ declared_by procedure.throws
  pub labels_are : thrown_parts table row.throws.items
      ≡ map (λ (entry : ThrownEntry). Written entry.label) procedure.throws
  pub loops_is : row.loops ≡ first + length procedure.slots
  pub loop_count_is : row.loop_count ≡ procedure.loops

-- rows for procedures in order
abbrev pub AreProcedureRows : (table : List Label) → (first : ℕ) → List ProcedureEntry → List ProcedureLabels → Type 0
AreProcedureRows table first [] [] = Unit {0}
AreProcedureRows table first [] (row ∷ rows) = ⊥
AreProcedureRows table first (procedure ∷ rest) [] = ⊥
AreProcedureRows table first (procedure ∷ rest) (row ∷ rows) =
    IsRow table first procedure row × AreProcedureRows table (first + own_unknowns procedure) rest rows

-- an atom that is written, or else another one; and the label of an exception among declared ones, or else another one
abbrev pub written_atom : Atom → (default : Atom) → Atom
written_atom (stored.Written n) default = stored.Written n
written_atom (stored.Unknown u) default = default

abbrev pub label_among : List ThrownLabel → (exception : ℕ) → (default : Atom) → Atom
label_among [] exception default = default
label_among (thrown ∷ rest) exception default =
    if exception == thrown.exception then thrown.label else label_among rest exception default

-- the parts of a whole program, by the table of its labels
pub record IsPartTable (core : Core) (nothing : Atom) (rows : List ProcedureLabels) (outside : ProcedureLabels) : Type 0 where
  pub nothing_is : part core.labels nothing ≡ Written []
  pub rows_are : (f : ℕ) → IsRow core.labels (unknowns_before (program_of core) f) (procedure_at (program_of core) f)
      (slice_index_or rows f outside)
