-- What a check gives of an accepted source: its program, and a label for each local and loop that is written without one.
-- Source: our own; labels of locals may be left out, and are then inferred, as in JFlow (Myers 1999).
use Rattle.std.specs.Prelude.{◌≡◌, ℕ, ◌<◌, [], length, Option, Some, None}
use Rattle.labels.specs.Label.{Label}
use Rattle.labels.specs.LabelLattice.{label_lattice}
use Rattle.resolved.specs.CoreOf.{program_of}
use Rattle.resolved.specs.Flow.{AreLeast}
use Rattle.resolved.specs.Labelled.{Labelled, OfLocal, Unwritten, exit_faults}
use Rattle.resolved.specs.Names.{HasNames}
use Rattle.resolved.specs.Program.{Program, procedure_at, slot_at}
use Rattle.resolved.specs.declared.program.Core.{Core}
use Rattle.gathering.specs.Names.{unwritten_number}
use Rattle.solver.specs.Constraints.{AreAlike, Solved, values_of}

-- the program, and which of its written labels reach each label that is not written
pub record CheckedProgram : Type 0 where
  pub core : Core
  pub solution : Solved

-- the value of the unknown with a number
abbrev pub least_value : CheckedProgram → ℕ → Label
least_value checked unknown =
    values_of (label_lattice (program_of checked.core).hierarchy) checked.core.labels checked.solution.reached unknown

-- the label of a local or a loop: the value of the unknown with its number
abbrev pub least_label : CheckedProgram → Unwritten → Label
least_label checked u = least_value checked (unwritten_number (program_of checked.core) u)

-- what every checked program keeps: no fault of its exits, labels that make it labelled, the least ones, and the names that a module
-- file holds
pub record IsChecked (checked : CheckedProgram) : Type 0 where
  pub ended : exit_faults (program_of checked.core) ≡ []
  pub labelled : Labelled (program_of checked.core)
  pub least : AreLeast (program_of checked.core) (least_label checked)
  pub names : HasNames (program_of checked.core)

-- ---- the label of a local

-- a program has a local with this number in the procedure with this number
abbrev pub IsLocalOf : Program → (procedure slot : ℕ) → Type 0
IsLocalOf program f n = (f < length program.procedures) × (n < length (procedure_at program f).slots)

-- a label is a written one, or flows both ways with the least one
abbrev pub IsWrittenOr : CheckedProgram → Unwritten → (written : Option Label) → Label → Type 0
IsWrittenOr checked u (Some written) label = label ≡ written
IsWrittenOr checked u None label = AreAlike (label_lattice (program_of checked.core).hierarchy) (least_label checked u) label

abbrev pub IsLabelOfLocal : CheckedProgram → (procedure slot : ℕ) → Label → Type 0
IsLabelOfLocal checked f n label =
    IsWrittenOr checked (OfLocal f n) (slot_at (procedure_at (program_of checked.core) f) n).written label
