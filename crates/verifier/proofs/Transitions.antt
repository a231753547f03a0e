-- Each instruction that is not refused and finds its operands has a transition, and leads to a state of a run again.
use Rattle.common.specs.Functions.{updated}
use Rattle.std.proofs.Common.{◌≡◌, ℕ, Bool, true, false, if◌then◌else◌, List, [], ◌∷◌, ◌++◌, map, replicate, Option, Some, None, refl, sym, ap, ◌∙◌, subst, ℤ}
use Rattle.modules.specs.Contents.{ProcedureContents, ModuleContents}
use Rattle.modules.specs.Machine as machine
use Rattle.modules.specs.Transitions as transitions
use Rattle.modules.specs.MachineParts as pieces
use Rattle.modules.specs.Machine.{State, machine_code, element_at, with_element}
use Rattle.modules.specs.MachineParts.{operates, with_slot}
use Rattle.common.specs.declared.exceptions.TheConstants.{ARITH, BOUNDS, END}
use Rattle.common.specs.Values.{kind_of, zero_of}
use Rattle.modules.specs.Values.{is_same_kind}
use Rattle.modules.specs.Operators.{OperatorFunction, ValueOf, applied, cell_of, operated, rule_of}
use Rattle.modules.specs.declared.instruction.MachineOperator.{MachineOperator}
use Rattle.modules.specs.declared.instruction.Instruction.{Instruction}
use Rattle.common.specs.declared.base_type.BaseType.{BaseType}
use Rattle.common.specs.declared.base_type.BaseType.TheVariants as kind
use Rattle.common.specs.declared.value.Value.{Value as Cell}
use Rattle.common.specs.declared.value.Value.TheVariants as cell
use Rattle.modules.specs.declared.declaration.Slot.{Slot}
use Rattle.modules.specs.declared.declaration.Slot.TheVariants as slot
use Rattle.common.specs.declared.direction.Direction.{Direction}
use Rattle.common.specs.declared.direction.Direction.TheVariants.{Input, Output}
use Rattle.verifier.specs.Refusals.{IsNotRefused}
use Rattle.modules.specs.Targets.{goes_on, target_of}
use Rattle.verifier.specs.Flow.{Effect, Leaves, Misses, and_then, all_popped, effect, exchanged}
use Rattle.verifier.specs.Signatures.{exchange, is_array, is_input, is_output, is_scalar, slot_kind}
use Rattle.verifier.specs.declared.fault.CodeRefusalKind.TheVariants.{OperandKind}
use Rattle.verifier.proofs.Holds.{AllOf, same_of, all_zero, element_kind, with_element_kind, scalar_kind}
use Rattle.verifier.proofs.Runs.{Stands, Good, leaves_same, next_good, jump_good, raised_good}

-- an operand that was popped was of the kind
pub right_kind : (b : Bool) (kinds after : List BaseType) (more : List BaseType → Effect) → and_then (if b then Leaves kinds else Misses OperandKind) more ≡ Leaves after → (b ≡ true) × (more kinds ≡ Leaves after)
right_kind true kinds after more e = (refl, e)
right_kind false kinds after more e = absurd (let no : Misses OperandKind ≡ Leaves after = e in cc)

-- ---- what an operator leaves

-- operands were popped, and with the value that was made, where one was, the kinds are these
abbrev Applies : List BaseType → Option (Option Cell × List Cell) → Type 0
Applies after None = ⊥
Applies after (Some (None, left)) = Unit {0}
Applies after (Some (Some x, left)) = map kind_of (x ∷ left) ≡ after

cell_of-kind : (kind : BaseType) (value : ValueOf kind) → kind_of (cell_of kind value) ≡ kind
cell_of-kind kind.Int value = refl
cell_of-kind kind.Boolean value = refl

applied-good : (kinds : List BaseType) (kind : BaseType) (function : OperatorFunction kinds kind) (operands : List Cell) (after : List BaseType) → and_then (all_popped (map (λ k. Some k) kinds) (map kind_of operands)) (λ rest. Leaves (kind ∷ rest)) ≡ Leaves after → Applies after (applied kinds kind function operands)
applied-good [] kind None operands after e = tt
applied-good [] kind (Some value) operands after e =
    ap (λ k. k ∷ map kind_of operands) (cell_of-kind kind value) ∙ leaves_same (kind ∷ map kind_of operands) after e
applied-good (kind.Int ∷ kinds) kind function [] after e = absurd (cc)
applied-good (kind.Int ∷ kinds) kind function (cell.Int n ∷ operands) after e = applied-good kinds kind (function n) operands after e
applied-good (kind.Int ∷ kinds) kind function (cell.Bool b ∷ operands) after e = absurd (cc)
applied-good (kind.Boolean ∷ kinds) kind function [] after e = absurd (cc)
applied-good (kind.Boolean ∷ kinds) kind function (cell.Int n ∷ operands) after e = absurd (cc)
applied-good (kind.Boolean ∷ kinds) kind function (cell.Bool b ∷ operands) after e = applied-good kinds kind (function b) operands after e

module _ (m : ModuleContents) (free : IsNotRefused m) (p : ProcedureContents) (i : Instruction) where
  -- ---- scalars

  pub loads_good : (s : State) (kinds after : List BaseType) (o : Option Slot) (cells : List Cell) → Stands m p s i kinds → kinds ≡ map kind_of s.frame.operands → effect m p i kinds ≡ Leaves after → goes_on i ≡ true → is_scalar o ≡ true → AllOf (slot_kind o) cells → after ≡ slot_kind o ∷ kinds → Good m (transitions.loads (machine_code m) s o cells)
  loads_good s kinds after None cells st is e goes scalar all leaves = absurd (let no : false ≡ true = scalar in cc)
  loads_good s kinds after (Some (slot.Array q count)) cells st is e goes scalar all leaves = absurd (let no : false ≡ true = scalar in cc)
  loads_good s kinds after (Some (slot.Scalar q)) cells st is e goes scalar all leaves =
      next_good m free p s i kinds after _ st e goes (ap (λ k. k ∷ map kind_of s.frame.operands) (scalar_kind q cells all) ∙ ap (λ l. q ∷ l) (sym is) ∙ sym leaves)

  pub stores_good : (s : State) (put : List Cell → State) (o : Option Slot) (operands : List Cell) (after : List BaseType) → Stands m p s i (map kind_of operands) → ((cells : List Cell) → AllOf (slot_kind o) cells → Stands m p (put cells) i (map kind_of operands)) → effect m p i (map kind_of operands) ≡ Leaves after → goes_on i ≡ true → is_scalar o ≡ true → all_popped (Some (slot_kind o) ∷ []) (map kind_of operands) ≡ Leaves after → Good m (transitions.stores (machine_code m) s o put operands)
  stores_good s put None operands after st stands e goes scalar pops = absurd (let no : false ≡ true = scalar in cc)
  stores_good s put (Some (slot.Array q count)) operands after st stands e goes scalar pops = absurd (let no : false ≡ true = scalar in cc)
  stores_good s put (Some (slot.Scalar q)) [] after st stands e goes scalar pops = absurd (cc)
  stores_good s put (Some (slot.Scalar q)) (x ∷ operands) after st stands e goes scalar pops =
      split (is_same_kind q (kind_of x)) refl pops
    where
      split : (b : Bool) → is_same_kind q (kind_of x) ≡ b → and_then (if b then Leaves (map kind_of operands) else Misses OperandKind) (all_popped []) ≡ Leaves after → Good m (if b then machine.goes_on (machine_code m) (put (x ∷ [])) operands else machine.stuck s)
      split true b pops = next_good m free p (put (x ∷ [])) i (map kind_of (x ∷ operands)) after operands (stands (x ∷ []) (sym (same_of q (kind_of x) b), tt)) e goes (leaves_same (map kind_of operands) after pops)
      split false b pops = absurd (cc)

  -- ---- arrays

  pub found_good : (s : State) (kinds after : List BaseType) (operands : List Cell) (q : BaseType) (cells : List Cell) (n : ℤ) → Stands m p s i kinds → effect m p i kinds ≡ Leaves after → goes_on i ≡ true → AllOf q cells → after ≡ q ∷ map kind_of operands → Good m (pieces.found (machine_code m) s operands (element_at cells n))
  found_good s kinds after operands q cells n st e goes all leaves = split (element_at cells n) refl
    where
      split : (o : Option Cell) → element_at cells n ≡ o → Good m (pieces.found (machine_code m) s operands o)
      split None is = raised_good m free p s i kinds BOUNDS st
      split (Some x) is = next_good m free p s i kinds after (x ∷ operands) st e goes (ap (λ k. k ∷ map kind_of operands) (element_kind q cells n x all is) ∙ sym leaves)

  pub loads_element_good : (s : State) (o : Option Slot) (cells : List Cell) (operands : List Cell) (after : List BaseType) → Stands m p s i (map kind_of operands) → effect m p i (map kind_of operands) ≡ Leaves after → goes_on i ≡ true → is_array o ≡ true → AllOf (slot_kind o) cells → and_then (all_popped (Some kind.Int ∷ []) (map kind_of operands)) (λ rest. Leaves (slot_kind o ∷ rest)) ≡ Leaves after → Good m (transitions.loads_element (machine_code m) s o cells operands)
  loads_element_good s None cells operands after st e goes array all pops = absurd (let no : false ≡ true = array in cc)
  loads_element_good s (Some (slot.Scalar q)) cells operands after st e goes array all pops = absurd (let no : false ≡ true = array in cc)
  loads_element_good s (Some (slot.Array q count)) cells [] after st e goes array all pops = absurd (cc)
  loads_element_good s (Some (slot.Array q count)) cells (cell.Bool b ∷ operands) after st e goes array all pops = absurd (cc)
  loads_element_good s (Some (slot.Array q count)) cells (cell.Int n ∷ operands) after st e goes array all pops =
      found_good s (map kind_of (cell.Int n ∷ operands)) after operands q cells n st e goes all (sym (leaves_same (q ∷ map kind_of operands) after pops))

  pub changes_good : (s : State) (put : List Cell → State) (kinds after : List BaseType) (operands : List Cell) (q : BaseType) (cells : List Cell) (n : ℤ) (x : Cell) → Stands m p s i kinds → ((new : List Cell) → AllOf q new → Stands m p (put new) i kinds) → effect m p i kinds ≡ Leaves after → goes_on i ≡ true → AllOf q cells → kind_of x ≡ q → after ≡ map kind_of operands → Good m (pieces.changes (machine_code m) s put operands (with_element cells n x))
  changes_good s put kinds after operands q cells n x st stands e goes all is leaves = split (with_element cells n x) refl
    where
      split : (o : Option (List Cell)) → with_element cells n x ≡ o → Good m (pieces.changes (machine_code m) s put operands o)
      split None w = raised_good m free p s i kinds BOUNDS st
      split (Some new) w = next_good m free p (put new) i kinds after operands (stands new (with_element_kind q cells n x new all is w)) e goes (sym leaves)

  pub stores_element_good : (s : State) (put : List Cell → State) (o : Option Slot) (cells : List Cell) (operands : List Cell) (after : List BaseType) → Stands m p s i (map kind_of operands) → ((new : List Cell) → AllOf (slot_kind o) new → Stands m p (put new) i (map kind_of operands)) → effect m p i (map kind_of operands) ≡ Leaves after → goes_on i ≡ true → is_array o ≡ true → AllOf (slot_kind o) cells → all_popped (Some (slot_kind o) ∷ Some kind.Int ∷ []) (map kind_of operands) ≡ Leaves after → Good m (transitions.stores_element (machine_code m) s o put cells operands)
  stores_element_good s put None cells operands after st stands e goes array all pops = absurd (let no : false ≡ true = array in cc)
  stores_element_good s put (Some (slot.Scalar q)) cells operands after st stands e goes array all pops = absurd (let no : false ≡ true = array in cc)
  stores_element_good s put (Some (slot.Array q count)) cells [] after st stands e goes array all pops = absurd (cc)
  stores_element_good s put (Some (slot.Array q count)) cells (x ∷ []) after st stands e goes array all pops =
      absurd (let r = right_kind (is_same_kind q (kind_of x)) [] after (all_popped (Some kind.Int ∷ [])) pops in let no : all_popped (Some kind.Int ∷ []) [] ≡ Leaves after = r.1 in cc)
  stores_element_good s put (Some (slot.Array q count)) cells (x ∷ cell.Bool b ∷ operands) after st stands e goes array all pops =
      absurd (let r = right_kind (is_same_kind q (kind_of x)) (kind.Boolean ∷ map kind_of operands) after (all_popped (Some kind.Int ∷ [])) pops in let no : Misses OperandKind ≡ Leaves after = r.1 in cc)
  stores_element_good s put (Some (slot.Array q count)) cells (x ∷ cell.Int n ∷ operands) after st stands e goes array all pops =
      let r = right_kind (is_same_kind q (kind_of x)) (kind.Int ∷ map kind_of operands) after (all_popped (Some kind.Int ∷ [])) pops in
      subst (λ (b : Bool). Good m (if b then pieces.changes (machine_code m) s put operands (with_element cells n x) else machine.stuck s)) (sym r.0)
      (changes_good s put (map kind_of (x ∷ cell.Int n ∷ operands)) after operands q cells n x st stands e goes all (sym (same_of q (kind_of x) r.0)) (sym (leaves_same (map kind_of operands) after r.1)))

  pub clears_good : (s : State) (k : ℕ) (o : Option Slot) (after : List BaseType) → Stands m p s i (map kind_of s.frame.operands) → ((new : List Cell) → AllOf (slot_kind o) new → Stands m p (with_slot s k new) i (map kind_of s.frame.operands)) → effect m p i (map kind_of s.frame.operands) ≡ Leaves after → goes_on i ≡ true → is_array o ≡ true → map kind_of s.frame.operands ≡ after → Good m (transitions.clears (machine_code m) s k o)
  clears_good s k None after st stands e goes array is = absurd (let no : false ≡ true = array in cc)
  clears_good s k (Some (slot.Scalar q)) after st stands e goes array is = absurd (let no : false ≡ true = array in cc)
  clears_good s k (Some (slot.Array q count)) after st stands e goes array is =
      next_good m free p (with_slot s k (replicate count (zero_of q))) i (map kind_of s.frame.operands) after s.frame.operands (stands (replicate count (zero_of q)) (all_zero count q)) e goes is

  -- ---- operators

  pub operates_good : (s : State) (operator : MachineOperator) (operands : List Cell) (after : List BaseType) → Stands m p s i (map kind_of operands) → effect m p i (map kind_of operands) ≡ Leaves after → goes_on i ≡ true → exchanged (exchange (rule_of operator).operands (Some (rule_of operator).value_kind)) (map kind_of operands) ≡ Leaves after → Good m (operates (machine_code m) s (operated operator operands))
  operates_good s operator operands after st e goes pops =
      by (operated operator operands) (applied-good (rule_of operator).operands (rule_of operator).value_kind (rule_of operator).value operands after pops)
    where
      by : (o : Option (Option Cell × List Cell)) → Applies after o → Good m (operates (machine_code m) s o)
      by None h = absurd h
      by (Some (None, left)) h = raised_good m free p s i (map kind_of operands) ARITH st
      by (Some (Some x, left)) h = next_good m free p s i (map kind_of operands) after (x ∷ left) st e goes h

  pub drops_good : (s : State) (operands : List Cell) (after : List BaseType) → Stands m p s i (map kind_of operands) → effect m p i (map kind_of operands) ≡ Leaves after → goes_on i ≡ true → all_popped (None ∷ []) (map kind_of operands) ≡ Leaves after → Good m (transitions.drops (machine_code m) s operands)
  drops_good s [] after st e goes pops = absurd (cc)
  drops_good s (x ∷ operands) after st e goes pops = next_good m free p s i (map kind_of (x ∷ operands)) after operands st e goes (leaves_same (map kind_of operands) after pops)

  pub branches_good : (s : State) (target : ℕ) (operands : List Cell) (after : List BaseType) → Stands m p s i (map kind_of operands) → effect m p i (map kind_of operands) ≡ Leaves after → goes_on i ≡ true → target_of i ≡ Some target → all_popped (Some kind.Boolean ∷ []) (map kind_of operands) ≡ Leaves after → Good m (transitions.branches (machine_code m) s target operands)
  branches_good s target [] after st e goes to pops = absurd (cc)
  branches_good s target (cell.Int n ∷ operands) after st e goes to pops = absurd (cc)
  branches_good s target (cell.Bool true ∷ operands) after st e goes to pops =
      next_good m free p s i (map kind_of (cell.Bool true ∷ operands)) after operands st e goes (leaves_same (map kind_of operands) after pops)
  branches_good s target (cell.Bool false ∷ operands) after st e goes to pops =
      jump_good m free p s i (map kind_of (cell.Bool false ∷ operands)) after operands target st e to (leaves_same (map kind_of operands) after pops)

  -- ---- channels

  pub sends_good : (s : State) (channel : ℕ) (o : Option Direction) (operands : List Cell) (after : List BaseType) → Stands m p s i (map kind_of operands) → effect m p i (map kind_of operands) ≡ Leaves after → goes_on i ≡ true → is_output o ≡ true → all_popped (Some kind.Int ∷ []) (map kind_of operands) ≡ Leaves after → Good m (transitions.sends (machine_code m) s channel o operands)
  sends_good s channel None operands after st e goes output pops = absurd (let no : false ≡ true = output in cc)
  sends_good s channel (Some Input) operands after st e goes output pops = absurd (let no : false ≡ true = output in cc)
  sends_good s channel (Some Output) [] after st e goes output pops = absurd (cc)
  sends_good s channel (Some Output) (cell.Bool b ∷ operands) after st e goes output pops = absurd (cc)
  sends_good s channel (Some Output) (cell.Int n ∷ operands) after st e goes output pops =
      next_good m free p (record s { sent = s.sent ++ record { channel = channel; number = n } ∷ [] }) i (map kind_of (cell.Int n ∷ operands)) after operands (record { there = st.there; instruction = st.instruction; flow = st.flow; slots = st.slots; globals = st.globals; callers = st.callers }) e goes (leaves_same (map kind_of operands) after pops)

  pub takes_good : (s : State) (channel : ℕ) (numbers : List ℤ) (after : List BaseType) → Stands m p s i (map kind_of s.frame.operands) → effect m p i (map kind_of s.frame.operands) ≡ Leaves after → goes_on i ≡ true → after ≡ kind.Int ∷ map kind_of s.frame.operands → Good m (pieces.takes (machine_code m) s channel numbers)
  takes_good s channel [] after st e goes is = raised_good m free p s i (map kind_of s.frame.operands) END st
  takes_good s channel (n ∷ numbers) after st e goes is =
      next_good m free p (record s { rest = updated s.rest channel numbers }) i (map kind_of s.frame.operands) after (cell.Int n ∷ s.frame.operands) (record { there = st.there; instruction = st.instruction; flow = st.flow; slots = st.slots; globals = st.globals; callers = st.callers }) e goes (sym is)

  pub receives_good : (s : State) (channel : ℕ) (o : Option Direction) (after : List BaseType) → Stands m p s i (map kind_of s.frame.operands) → effect m p i (map kind_of s.frame.operands) ≡ Leaves after → goes_on i ≡ true → is_input o ≡ true → after ≡ kind.Int ∷ map kind_of s.frame.operands → Good m (pieces.receives (machine_code m) s channel o)
  receives_good s channel None after st e goes input is = absurd (let no : false ≡ true = input in cc)
  receives_good s channel (Some Output) after st e goes input is = absurd (let no : false ≡ true = input in cc)
  receives_good s channel (Some Input) after st e goes input is = takes_good s channel (s.rest channel) after st e goes is
