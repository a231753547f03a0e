-- The cells of a frame, counted slot by slot.
use Rattle.std.proofs.Common.{◌≡◌, ℕ, ◌+◌, ◌≤◌, List, [], ◌∷◌, map, drop, Bool, refl, sym, ◌∙◌, ap}
use Rattle.std.specs.Prelude.{nat_le, sum_by}
use Rattle.std.proofs.lemmas.List.Sums.{sum_by-cons}
use Rattle.resolved.specs.declared.tables.Procedure.{Procedure}
use Rattle.resolved.specs.declared.tables.Slot.{Slot}
use Rattle.labels.specs.Label.{Label}
use Rattle.resolved.specs.Program.{SlotEntry}
use Rattle.resolved.specs.ProgramOf.{slot_entry, procedure_entry}
use Rattle.resolved.specs.WellFormed.{cell_count}
use Rattle.types.specs.declared.fault.TypeRefusalKind.TheVariants as refusals
use Rattle.types.specs.Finding.{require}
use Rattle.types.specs.Resolution.{next_frame}
use Rattle.types.specs.Views.{cells_of_slots}
use Rattle.common.specs.declared.limits.TheConstants.{MAX_CELLS}

abbrev entry_cells : SlotEntry → ℕ
entry_cells slot = cell_count slot.size

-- this many cells have the slots before the next one, and they are not too many
pub record Counts (slots : List Slot) (cells i : ℕ) : Type 0 where
  pub few : cells ≤ MAX_CELLS
  pub on : cells + cells_of_slots (drop i slots) ≡ cells_of_slots slots

abbrev slot_cells : Slot → ℕ
slot_cells slot = cell_count slot.size

-- a frame has the cells of its slots
pub cells_of_frame : (labels : List Label) (slots : List Slot) → sum_by (λ (slot : SlotEntry). cell_count slot.size) (map (slot_entry labels) slots) ≡ cells_of_slots slots
cells_of_frame labels [] = refl
cells_of_frame labels (slot ∷ slots) =
    sum_by-cons entry_cells (slot_entry labels slot) (map (slot_entry labels) slots) ∙ ap (λ cells. cell_count slot.size + cells) (cells_of_frame labels slots) ∙ sym (sum_by-cons slot_cells slot slots)

-- whether the frame of a procedure fits, by its slots
pub frame_fits : (labels : List Label) (procedure : Procedure) (fits : Bool) → fits ≡ nat_le (cells_of_slots procedure.slots.items) MAX_CELLS
    → next_frame tt (procedure_entry labels procedure) ≡ require fits refusals.TooManyCells procedure.at
frame_fits labels procedure fits is =
    ap (λ cells. require (nat_le cells MAX_CELLS) refusals.TooManyCells procedure.at) (cells_of_frame labels procedure.slots.items)
    ∙ ap (λ test. require test refusals.TooManyCells procedure.at) (sym is)
