-- What labels have by their numbers they have in each table that extends theirs.
use Rattle.std.proofs.Common.{◌≡◌, ℕ, suc, ◌+◌, ◌≤◌, List, [], ◌∷◌, ◌++◌, map, length, Option, Some, None, refl, sym, ◌∙◌, ap, arith, append_assoc, append-nil, length-append}
use Rattle.std.specs.Prelude.{All}
use Rattle.std.proofs.lemmas.List.{get_or_append_left}
use Rattle.labels.specs.Label.{Label}
use Rattle.labels.specs.LabelTable.{Extends, label_at}
use Rattle.resolved.specs.declared.tables.Channel.{Channel}
use Rattle.resolved.specs.declared.tables.GlobalVariable.{GlobalVariable}
use Rattle.resolved.specs.declared.tables.Procedure.{Procedure}
use Rattle.resolved.specs.declared.tables.ResultType.{ResultType}
use Rattle.resolved.specs.declared.tables.Slot.{Slot}
use Rattle.resolved.specs.declared.tables.Thrown.{Thrown}
use Rattle.resolved.specs.ProgramOf.{channel_entry, global_entry, slot_entry, written_at, result_entry, thrown_entry, procedure_entry}
use Rattle.types.specs.VariableEntries.{VariableEntries, IsInside, IsOptionInside, IsResultInside, AreSlotsInside, AreThrownLabelsInside, IsProcedureInside, HasMoreLabels}

pub extends_itself : (labels : List Label) → Extends labels labels
extends_itself labels = record { more = []; after_is = sym (append-nil labels) }

pub extends_through : (first second third : List Label) → Extends first second → Extends second third → Extends first third
extends_through first second third p q = record {
  more = p.more ++ q.more;
  after_is = q.after_is ∙ ap (λ front. front ++ q.more) p.after_is ∙ append_assoc first p.more q.more;
}

-- two maps that agree on each element of a list
pub map_same : {X Y : Type 0} (f g : X → Y) (P : X → Type 0) (xs : List X) → ((x : X) → P x → f x ≡ g x) → All P xs → map f xs ≡ map g xs
map_same f g P [] same all = refl
map_same f g P (x ∷ xs) same all = λ i. same x (all 0 x (omega arith)) i ∷ map_same f g P xs same (λ k d within. all (suc k) d (omega (arith, within))) i

pub All_weaker : {X : Type 0} (P Q : X → Type 0) (xs : List X) → ((x : X) → P x → Q x) → All P xs → All Q xs
All_weaker P Q xs weaker all k d within = weaker _ (all k d within)

module _ (before after : List Label) (extended : Extends before after) where
  pub longer : length before ≤ length after
  longer = omega (arith, ap length extended.after_is, length-append before extended.more)

  pub still_inside : (number : ℕ) → IsInside before number → IsInside after number
  still_inside number inside = omega (arith, longer, inside)

  pub same_label : (number : ℕ) → IsInside before number → label_at after number ≡ label_at before number
  same_label number inside = ap (λ labels. label_at labels number) extended.after_is ∙ get_or_append_left before extended.more [] number inside

  -- a label that may be left out
  pub option_still_inside : (number : Option ℕ) → IsOptionInside before number → IsOptionInside after number
  option_still_inside None inside = tt
  option_still_inside (Some number) inside = still_inside number inside

  pub same_written : (number : Option ℕ) → IsOptionInside before number → written_at after number ≡ written_at before number
  same_written None inside = refl
  same_written (Some number) inside = ap (λ label. Some label) (same_label number inside)

  -- channels
  pub channels_still_inside : (channels : List Channel) → All (λ (channel : Channel). IsInside before channel.label) channels
      → All (λ (channel : Channel). IsInside after channel.label) channels
  channels_still_inside channels inside = All_weaker _ _ channels (λ channel within. still_inside channel.label within) inside

  pub same_channels : (channels : List Channel) → All (λ (channel : Channel). IsInside before channel.label) channels
      → map (channel_entry after) channels ≡ map (channel_entry before) channels
  same_channels channels inside =
      map_same (channel_entry after) (channel_entry before) _ channels
      (λ channel within i. record (channel_entry before channel) { label = same_label channel.label within i }) inside

  pub same_globals : (globals : List GlobalVariable) → All (λ (global : GlobalVariable). IsInside before global.label) globals
      → map (global_entry after) globals ≡ map (global_entry before) globals
  same_globals globals inside =
      map_same (global_entry after) (global_entry before) _ globals
      (λ global within i. record (global_entry before global) { label = same_label global.label within i }) inside

  -- slots
  pub slots_still_inside : (slots : List Slot) → AreSlotsInside before slots → AreSlotsInside after slots
  slots_still_inside slots inside = All_weaker _ _ slots (λ (slot : Slot) within. option_still_inside slot.written within) inside

  pub same_slots : (slots : List Slot) → AreSlotsInside before slots → map (slot_entry after) slots ≡ map (slot_entry before) slots
  same_slots slots inside =
      map_same (slot_entry after) (slot_entry before) _ slots
      (λ slot within i. record (slot_entry before slot) { written = same_written slot.written within i }) inside

  -- the value of a procedure
  pub result_still_inside : (value : Option ResultType) → IsResultInside before value → IsResultInside after value
  result_still_inside None inside = tt
  result_still_inside (Some type) inside = still_inside type.label inside

  pub same_result : (value : Option ResultType) → IsResultInside before value → result_entry after value ≡ result_entry before value
  same_result None inside = refl
  same_result (Some type) inside = λ i. Some (record { base = type.base; label = same_label type.label inside i })

  -- exceptions
  pub thrown_still_inside : (throws : List Thrown) → AreThrownLabelsInside before throws → AreThrownLabelsInside after throws
  thrown_still_inside throws inside = All_weaker _ _ throws (λ (thrown : Thrown) within. still_inside thrown.label within) inside

  pub same_thrown : (throws : List Thrown) → AreThrownLabelsInside before throws → map (thrown_entry after) throws ≡ map (thrown_entry before) throws
  same_thrown throws inside =
      map_same (thrown_entry after) (thrown_entry before) _ throws
      (λ thrown within i. record { exception = thrown.exception; label = same_label thrown.label within i }) inside

  -- procedures
  pub procedure_still_inside : (procedure : Procedure) → IsProcedureInside before procedure → IsProcedureInside after procedure
  procedure_still_inside procedure inside = record {
    of_result = result_still_inside procedure.result inside.of_result;
    of_begin = still_inside procedure.begin_label inside.of_begin;
    of_end = still_inside procedure.end_label inside.of_end;
    of_throws = thrown_still_inside procedure.throws.items inside.of_throws;
    of_slots = slots_still_inside procedure.slots.items inside.of_slots;
  }

  pub same_procedure : (procedure : Procedure) → IsProcedureInside before procedure → procedure_entry after procedure ≡ procedure_entry before procedure
  same_procedure procedure inside = λ i. record (procedure_entry before procedure) {
    result = same_result procedure.result inside.of_result i;
    begin_label = same_label procedure.begin_label inside.of_begin i;
    end_label = same_label procedure.end_label inside.of_end i;
    throws = same_thrown procedure.throws.items inside.of_throws i;
    slots = same_slots procedure.slots.items inside.of_slots i;
  }

  pub procedures_still_inside : (procedures : List Procedure) → All (λ (procedure : Procedure). IsProcedureInside before procedure) procedures
      → All (λ (procedure : Procedure). IsProcedureInside after procedure) procedures
  procedures_still_inside procedures inside = All_weaker _ _ procedures procedure_still_inside inside

  pub same_procedures : (procedures : List Procedure) → All (λ (procedure : Procedure). IsProcedureInside before procedure) procedures
      → map (procedure_entry after) procedures ≡ map (procedure_entry before) procedures
  same_procedures procedures inside = map_same (procedure_entry after) (procedure_entry before) _ procedures same_procedure inside

-- ---- more labels

pub more_through : (few more all : ℕ) (first second third : VariableEntries) → few + more ≤ all → HasMoreLabels few first second → HasMoreLabels more second third
    → HasMoreLabels all first third
more_through few more all first second third within p q = record {
  extended = extends_through first.labels second.labels third.labels p.extended q.extended;
  few = omega (arith, within, p.few, q.few);
  globals = q.globals ∙ p.globals;
  slots = q.slots ∙ p.slots;
}

pub no_more : (most : ℕ) (variables : VariableEntries) → HasMoreLabels most variables variables
no_more most variables = record { extended = extends_itself variables.labels; few = omega arith; globals = refl; slots = refl }
