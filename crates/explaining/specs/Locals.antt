-- The text that lists the least labels of locals that are written without one.
-- Source: our own; labels of locals may be left out, and are then inferred, as in JFlow (Myers 1999).
use Rattle.std.specs.Prelude.{ℕ, suc, ◌≡◌, List, [], ◌∷◌, ◌++◌, Option, Some, None, codes}
use Rattle.labels.specs.Canonical.{IsCanonicalLabel}
use Rattle.labels.specs.LabelLattice.{label_lattice}
use Rattle.labels.specs.Label.{Label}
use Rattle.labels.specs.Printed.{printed_label}
use Rattle.principals.specs.ActsFor.{PrincipalHierarchy}
use Rattle.resolved.specs.CoreOf.{program_of}
use Rattle.resolved.specs.Labelled.{OfLocal}
use Rattle.resolved.specs.Program.{Program, ProcedureEntry, SlotEntry}
use Rattle.solver.specs.Constraints.{AreAlike}
use Rattle.checker.specs.Checked.{CheckedProgram, least_label}
use Rattle.explaining.specs.Text.{Writes, WritesPrefix, at_place}

-- ---- the locals

-- a local: the number of its procedure, its own, the byte at which its declaration begins, and its name
pub record LocalEntry : Type 0 where
  pub procedure : ℕ
  pub number : ℕ
  pub at : ℕ
  pub name : List ℕ

abbrev pub local_of : (procedure number : ℕ) → SlotEntry → LocalEntry
local_of f n slot = record { procedure = f; number = n; at = slot.at; name = slot.name }

-- a local, if it has no written label
abbrev pub if_unlabelled : LocalEntry → (written : Option Label) → List LocalEntry
if_unlabelled local None = local ∷ []
if_unlabelled local (Some label) = []

-- those of the slots of a procedure that have none, in order, where the first slot has the number n
abbrev pub locals_in : (procedure n : ℕ) → List SlotEntry → List LocalEntry
locals_in f n [] = []
locals_in f n (slot ∷ slots) = if_unlabelled (local_of f n slot) slot.written ++ locals_in f (suc n) slots

-- and of procedures, in order, where the first has the number f
abbrev pub locals_from : (f : ℕ) → List ProcedureEntry → List LocalEntry
locals_from f [] = []
locals_from f (procedure ∷ procedures) = locals_in f 0 procedure.slots ++ locals_from (suc f) procedures

abbrev pub unlabelled_locals : Program → List LocalEntry
unlabelled_locals program = locals_from 0 program.procedures

-- ---- their lines

-- a label flows both ways with the least label of a local
abbrev pub IsLeastLabel : CheckedProgram → LocalEntry → Label → Type 0
IsLeastLabel checked local label =
    AreAlike (label_lattice (program_of checked.core).hierarchy) (least_label checked (OfLocal local.procedure local.number)) label

abbrev pub local_line : (source : List ℕ) → PrincipalHierarchy → LocalEntry → Label → List ℕ
local_line source h local label =
    at_place source local.at (codes " " ++ (local.name ++ (codes " " ++ (printed_label h label ++ codes "\n"))))

-- the line of a local, with a label that flows both ways with its least one, each policy once and in order
abbrev pub IsLocalLine : (source : List ℕ) → CheckedProgram → LocalEntry → (line : List ℕ) → Type 0
IsLocalLine source checked local line =
    (label : Label) × IsCanonicalLabel label × IsLeastLabel checked local label
    × (line ≡ local_line source (program_of checked.core).hierarchy local label)

-- a line for each of these locals, in order
pub data AreLines (source : List ℕ) (checked : CheckedProgram) : List LocalEntry → (text : List ℕ) → Type 0 where
  none : AreLines source checked [] []
  one_more : (local : LocalEntry) (locals : List LocalEntry) (line text : List ℕ) → IsLocalLine source checked local line
      → AreLines source checked locals text → AreLines source checked (local ∷ locals) (line ++ text)

-- a line for each local without a written label was written, or a prefix of such lines
abbrev pub WritesLabels : CheckedProgram → (source : List ℕ) → (old new : Option (List ℕ)) → Type 0
WritesLabels checked source old new = Writes (AreLines source checked (unlabelled_locals (program_of checked.core))) old new

abbrev pub WritesSomeLabels : CheckedProgram → (source : List ℕ) → (old new : Option (List ℕ)) → Type 0
WritesSomeLabels checked source old new = WritesPrefix (AreLines source checked (unlabelled_locals (program_of checked.core))) old new
