-- Declarations of locals, by what their parts were found to be.
use Rattle.std.specs.Prelude.{nat_lt, nat_le, Bool, true, false, ◌&&◌}
use Rattle.std.proofs.Common.{◌≡◌, ℕ, List, length, map, Option, None, Some, Ok, sym, ◌∙◌, ap, subst}
use Rattle.std.proofs.lemmas.List.{length-map}
use Rattle.labels.specs.Label.{Label}
use Rattle.syntax.specs.Tree.{NameTree, LabelTree, RightTree, SizeTree}
use Rattle.common.specs.declared.base_type.BaseType.{BaseType}
use Rattle.resolved.specs.declared.expression.Variable.TheVariants.{Local}
use Rattle.resolved.specs.declared.tables.Slot.{Slot}
use Rattle.resolved.specs.Program.{SlotEntry}
use Rattle.resolved.specs.ProgramOf.{slot_entry}
use Rattle.resolved.specs.Tree.{Statement, Placed, Clear}
use Rattle.common.specs.Answers.{IfRefused}
use Rattle.common.specs.declared.fault.OrNoMemory.{OrNoMemory}
use Rattle.common.specs.declared.refusal.RefusalAt.{RefusalAt}
use Rattle.types.specs.declared.fault.TypeRefusalKind.{TypeRefusalKind}
use Rattle.types.specs.declared.scope.Meaning.{Meaning}
use Rattle.types.specs.declared.fault.TypeRefusalKind.TheVariants as refusals
use Rattle.common.specs.declared.limits.TheConstants.{MAX_ELEMENTS}
use Rattle.types.specs.Finding.{IsRefusalOf, give, give_if}
use Rattle.types.specs.Environment.{fresh_finding}
use Rattle.types.specs.Labels.{LabelScope, optional_label_finding}
use Rattle.types.specs.Statements.{Setting, Point, label_scope, with_local, assigned_finding, declared_finding, size_finding, statement_finding, declare_finding, declare_array_finding, slot_of}
use Rattle.types.specs.VariableEntries.{VariableEntries, LabelPolicies, optional_label_with}
use Rattle.types.proofs.Loops.{then_ok, fails_later, fails_second}
use Rattle.types.proofs.Tables.{ok_inside}

-- a label by what the place that it stands at is seen as
pub labelled : (label : Option LabelTree) (parts : Option LabelPolicies) (seen scope : LabelScope) (there variables : VariableEntries) → seen ≡ scope → there ≡ variables
    → optional_label_finding seen label ≡ Ok (optional_label_with there.labels parts) → optional_label_finding scope label ≡ Ok (optional_label_with variables.labels parts)
labelled label parts seen scope there variables same held found =
    ap (λ one. optional_label_finding one label) (sym same) ∙ found ∙ ap (λ (one : VariableEntries). Ok (optional_label_with one.labels parts)) held

-- the number of the next slot
pub next_slot : (labels : List Label) (slots : List Slot) (entries : List SlotEntry) (number : ℕ) → map (slot_entry labels) slots ≡ entries → number ≡ length slots
    → number ≡ length entries
next_slot labels slots entries number are counted = counted ∙ sym (length-map slots (slot_entry labels)) ∙ ap length are

-- a size that is found is the one that is written
sized_is : (size : SizeTree) (cells : ℕ) → size_finding size ≡ Ok cells → cells ≡ size.1
unfolding size_finding
sized_is size cells found = go (nat_lt 0 size.1 && nat_le size.1 MAX_ELEMENTS) found
  where
    go : (test : Bool) → give_if test size.1 refusals.ArraySize size.0 ≡ Ok cells → cells ≡ size.1
    go true e = sym (ok_inside _ _ e)
    go false e = absurd (cc)

module _ (setting : Setting) (point : Point) (at : ℕ) (base : BaseType) (label : Option LabelTree) (name : NameTree) (written : Option Label)
    (found : Option Meaning) (number : ℕ) (written_is : optional_label_finding (label_scope setting point) label ≡ Ok written)
    (looked : found ≡ point.names name.text) (new : fresh_finding found name.at ≡ Ok tt) (next : number ≡ length point.slots) where
  fresh_there : fresh_finding (point.names name.text) name.at ≡ Ok tt
  fresh_there = sym (ap (λ one. fresh_finding one name.at) looked) ∙ new

  declared_there : (size : Option ℕ)
      → declared_finding (label_scope setting point) point at base label name size ≡ Ok (with_local point (slot_of at base written name.text size))
  unfolding declared_finding
  declared_there size = then_ok _ _ written written_is ∙ then_ok _ _ tt fresh_there

  -- an array
  pub array_declared : (after : Point) (slot : SlotEntry) (size : SizeTree) (cells : ℕ) → size_finding size ≡ Ok cells → slot ≡ slot_of at base written name.text (Some cells)
      → give (with_local point slot) ≡ give after
      → declare_array_finding setting point at base label name size ≡ Ok (after, Placed at (Clear number))
  unfolding statement_finding
  array_declared after slot size cells sized entry declared =
      then_ok _ _ _ (declared_there (Some size.1)) ∙ then_ok _ _ cells sized
      ∙ ap (λ m. Ok (with_local point (slot_of at base written name.text (Some size.1)), Placed at (Clear m))) (sym next)
      ∙ ap (λ count. Ok (with_local point (slot_of at base written name.text (Some count)), Placed at (Clear number))) (sym (sized_is size cells sized))
      ∙ ap (λ one. Ok (with_local point one, Placed at (Clear number))) (sym entry)
      ∙ ap (λ one. Ok (one, Placed at (Clear number))) (ok_inside _ _ declared)

  -- a scalar with its first value
  pub scalar_declared : (after : Point) (slot : SlotEntry) (value : RightTree) (statement : Statement) → assigned_finding setting.signatures point.names at (Local number) base value ≡ Ok statement
      → slot ≡ slot_of at base written name.text None → give (with_local point slot) ≡ give after
      → declare_finding setting point at base label name value ≡ Ok (after, statement)
  unfolding statement_finding
  scalar_declared after slot value statement assigned entry declared =
      then_ok _ _ _ (declared_there None)
      ∙ then_ok _ _ statement (ap (λ m. assigned_finding setting.signatures point.names at (Local m) base value) (sym next) ∙ assigned)
      ∙ ap (λ one. Ok (with_local point one, statement)) (sym entry)
      ∙ ap (λ one. Ok (one, statement)) (ok_inside _ _ declared)

  pub scalar_refused : (value : RightTree) (fault : OrNoMemory (RefusalAt TypeRefusalKind)) → IfRefused (IsRefusalOf (assigned_finding setting.signatures point.names at (Local number) base value)) fault
      → IfRefused (IsRefusalOf (declare_finding setting point at base label name value)) fault
  unfolding statement_finding
  scalar_refused value fault wrong =
      fails_second _ _ _ fault (declared_there None)
      (fails_later _ _ fault (subst (λ m. IfRefused (IsRefusalOf (assigned_finding setting.signatures point.names at (Local m) base value)) fault) next wrong))
