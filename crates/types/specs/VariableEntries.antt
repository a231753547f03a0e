-- Private: the variables that are declared so far and the labels that they name by number, as the definitions see them.
-- Source: our own.
use Rattle.std.specs.Prelude.{◌≡◌, ℕ, ◌+◌, ◌<◌, ◌≤◌, ◌++◌, ◌∷◌, List, [], length, All, Option, Some, None}
use Rattle.labels.specs.Label.{Label, ReaderPolicy}
use Rattle.labels.specs.LabelTable.{Extends, labels_of}
use Rattle.labels.specs.Canonical.{written_label}
use Rattle.resolved.specs.declared.tables.GlobalVariable.{GlobalVariable}
use Rattle.resolved.specs.declared.tables.Procedure.{Procedure}
use Rattle.resolved.specs.declared.tables.ResultType.{ResultType}
use Rattle.resolved.specs.declared.tables.Slot.{Slot}
use Rattle.resolved.specs.declared.tables.Thrown.{Thrown}
use Rattle.resolved.specs.Program.{GlobalEntry, SlotEntry}

-- the labels by their numbers, the globals, and the slots of the procedure that is resolved
pub record VariableEntries : Type 0 where
  pub labels : List Label
  pub globals : List GlobalEntry
  pub slots : List SlotEntry

-- what a label is held as: its own policies, and the numbers of the labels whose policies it has too
pub record LabelPolicies : Type 0 where
  pub own : List ReaderPolicy
  pub named : List ℕ

abbrev pub label_with : List Label → LabelPolicies → Label
label_with labels policies = written_label (policies.own ++ labels_of labels policies.named)

-- a label that may be left out
abbrev pub optional_label_with : List Label → Option LabelPolicies → Option Label
optional_label_with labels None = None
optional_label_with labels (Some policies) = Some (label_with labels policies)

-- ---- numbers of labels that there are

abbrev pub IsInside : List Label → (number : ℕ) → Type 0
IsInside labels number = number < length labels

-- that of a label that may be left out
abbrev pub IsOptionInside : List Label → Option ℕ → Type 0
IsOptionInside labels None = Unit {0}
IsOptionInside labels (Some number) = IsInside labels number

abbrev pub IsResultInside : List Label → Option ResultType → Type 0
IsResultInside labels None = Unit {0}
IsResultInside labels (Some type) = IsInside labels type.label

abbrev pub AreSlotsInside : List Label → List Slot → Type 0
AreSlotsInside labels slots = All (λ (slot : Slot). IsOptionInside labels slot.written) slots

abbrev pub AreThrownLabelsInside : List Label → List Thrown → Type 0
AreThrownLabelsInside labels throws = All (λ (thrown : Thrown). IsInside labels thrown.label) throws

-- those of the globals and of the slots
pub record AreInside (labels : List Label) (globals : List GlobalVariable) (slots : List Slot) : Type 0 where
  pub of_globals : All (λ (global : GlobalVariable). IsInside labels global.label) globals
  pub of_slots : AreSlotsInside labels slots

-- those of a procedure
pub record IsProcedureInside (labels : List Label) (procedure : Procedure) : Type 0 where
  pub of_result : IsResultInside labels procedure.result
  pub of_begin : IsInside labels procedure.begin_label
  pub of_end : IsInside labels procedure.end_label
  pub of_throws : AreThrownLabelsInside labels procedure.throws.items
  pub of_slots : AreSlotsInside labels procedure.slots.items

-- ---- more labels

-- the same variables with this many further labels at most
pub record HasMoreLabels (most : ℕ) (before after : VariableEntries) : Type 0 where
  pub extended : Extends before.labels after.labels
  pub few : length after.labels ≤ length before.labels + most
  pub globals : after.globals ≡ before.globals
  pub slots : after.slots ≡ before.slots

-- the same with one more slot, and its label if that is new
pub record IsSlotAdded (slot : SlotEntry) (before after : VariableEntries) : Type 0 where
  pub extended : Extends before.labels after.labels
  pub few : length after.labels ≤ length before.labels + 1
  pub globals : after.globals ≡ before.globals
  pub slots : after.slots ≡ before.slots ++ slot ∷ []
