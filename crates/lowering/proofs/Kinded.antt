-- What single instructions make of the kinds of the operands, in a procedure whose slots, globals, channels and procedures are those of
-- a program.
use Rattle.std.proofs.Common.{◌≡◌, refl, ap, ◌∙◌, ℕ, zero, suc, ◌+◌, Bool, true, false, List, [], ◌∷◌, ◌++◌, length, map, take, reverse, Option, Some, None, slice_get}
use Rattle.std.proofs.lemmas.Bool.{and_parts}
use Rattle.std.specs.Prelude.{is_none, is_some, nat_lt, if◌then◌else◌}
use Rattle.common.specs.declared.base_type.BaseType.{BaseType}
use Rattle.resolved.specs.declared.expression.Variable.{Variable}
use Rattle.resolved.specs.declared.expression.Variable.TheVariants.{Global, Local}
use Rattle.common.specs.declared.operator.Prefix.{Prefix}
use Rattle.common.specs.declared.operator.Prefix.TheVariants as prefix
use Rattle.common.specs.declared.operator.Operator.{Operator}
use Rattle.common.specs.declared.operator.Operator.TheVariants as operator
use Rattle.common.specs.declared.direction.Direction.TheVariants as direction
use Rattle.common.proofs.Cases.{none_there}
use Rattle.labels.specs.Channel.{ChannelContents}
use Rattle.resolved.specs.Program.{Program, ProcedureEntry, SlotEntry}
use Rattle.resolved.specs.WellFormed.{VariableType, variable_type, scalar_by, array_by, has_length, channel_is, prefix_base, operand_base, result_base}
use Rattle.modules.specs.Contents.{ProcedureContents, ModuleContents}
use Rattle.modules.specs.Machine.{machine_code, header_of, parameter_kinds}
use Rattle.modules.specs.MachineParts.{kinds_of}
use Rattle.modules.specs.Values.{is_same_kind}
use Rattle.modules.specs.declared.instruction.Instruction.{Instruction}
use Rattle.modules.specs.declared.instruction.Instruction.TheVariants as instruction
use Rattle.modules.specs.declared.instruction.MachineOperator.TheVariants as machine
use Rattle.modules.specs.declared.instruction.Storage.TheVariants as storage
use Rattle.modules.specs.declared.declaration.Slot.{Slot}
use Rattle.modules.specs.declared.declaration.Slot.TheVariants as slot
use Rattle.common.specs.declared.base_type.BaseType.TheVariants.{Int, Boolean}
use Rattle.verifier.specs.declared.fault.CodeRefusalKind.{CodeRefusalKind}
use Rattle.verifier.specs.declared.fault.CodeRefusalKind.TheVariants.{OperandKind, SlotOrIndex}
use Rattle.verifier.specs.Fixed.{instruction_refusal, unless}
use Rattle.modules.specs.Targets.{goes_on, target_of}
use Rattle.verifier.specs.Flow.{Effect, Leaves, Misses, exchanged, all_popped, and_then, effect}
use Rattle.verifier.specs.SignatureParts.{pushed}
use Rattle.verifier.specs.Signatures.{called, exchange, is_array, is_input, is_output, is_scalar, slot_kind}
use Rattle.verifier.specs.SignatureParts.{value_kinds}
use Rattle.lowering.specs.Interface.{declared_slot, slot_contents, returned_kind}
use Rattle.lowering.specs.Expressions.{load_of, store_of, load_element_of, store_element_of, prefix_instruction, operator_instruction}
use Rattle.lowering.specs.Graphs.{procedure_contents}
use Rattle.lowering.proofs.States.{slot_of_type, direction_in}
use Rattle.lowering.proofs.Flowing.{Does, following}

-- ---- operands that are popped
same-kind : (kind : BaseType) → is_same_kind kind kind ≡ true
same-kind Int = refl
same-kind Boolean = refl

pops-one : (kind : BaseType) (kinds : List BaseType) (pushes : Option BaseType) → exchanged (exchange (kind ∷ []) pushes) (kind ∷ kinds) ≡ Leaves (pushed pushes kinds)
pops-one Int kinds pushes = refl
pops-one Boolean kinds pushes = refl

pops-two : (kind : BaseType) (kinds : List BaseType) → exchanged (exchange (kind ∷ Int ∷ []) None) (kind ∷ Int ∷ kinds) ≡ Leaves kinds
pops-two Int kinds = refl
pops-two Boolean kinds = refl

pops-all : (wanted kinds : List BaseType) → all_popped (map (λ kind. Some kind) wanted) (wanted ++ kinds) ≡ Leaves kinds
pops-all [] kinds = refl
pops-all (kind ∷ wanted) kinds =
    ap (λ (b : Bool). and_then (if b then Leaves (wanted ++ kinds) else Misses OperandKind) (all_popped (map (λ kind. Some kind) wanted))) (same-kind kind)
    ∙ pops-all wanted kinds

-- ---- what a table has
unless-right : (right : Bool) (wrong : CodeRefusalKind) → right ≡ true → unless right wrong ≡ None
unless-right right wrong h = ap (λ (b : Bool). unless b wrong) h

-- a scalar whose base type passes a test
pub record ScalarOf (o : Option VariableType) (test : BaseType → Bool) : Type 0 where
  pub base : BaseType
  pub passes : test base ≡ true
  pub is : slot_of_type o ≡ Some (slot.Scalar base)

pub scalar-type : (o : Option VariableType) (test : BaseType → Bool) → scalar_by o test ≡ true → ScalarOf o test
scalar-type None test h = absurd (let no : false ≡ true = h in cc)
scalar-type (Some type) test h =
    let parts = and_parts (is_none type.size) (test type.base) h in
    record { base = type.base; passes = parts.1; is = ap (λ (size : Option ℕ). Some (declared_slot type.base size)) (none_there type.size parts.0) }

-- an array whose base type passes a test
pub record ArrayOf (o : Option VariableType) (test : BaseType → Bool) : Type 0 where
  pub base : BaseType
  pub count : ℕ
  pub passes : test base ≡ true
  pub is : slot_of_type o ≡ Some (slot.Array base count)

pub array-type : (o : Option VariableType) (size : ℕ) (test : BaseType → Bool) → array_by o size test ≡ true → ArrayOf o test
array-type None size test h = absurd (let no : false ≡ true = h in cc)
array-type (Some type) size test h =
    let parts = and_parts (has_length type.size size) (test type.base) h in
    by type.size refl parts.0 parts.1
  where
    by : (o : Option ℕ) → type.size ≡ o → has_length o size ≡ true → test type.base ≡ true → ArrayOf (Some type) test
    by None e sized passes = absurd (let no : false ≡ true = sized in cc)
    by (Some count) e sized passes =
        record { base = type.base; count = count; passes = passes; is = ap (λ (size : Option ℕ). Some (declared_slot type.base size)) e }

pub input-is : (o : Option ChannelContents) → channel_is o direction.Input ≡ true → is_input (direction_in o) ≡ true
input-is None h = absurd (let no : false ≡ true = h in cc)
input-is (Some entry) h = by entry.direction h
  where
    by : (d : _) → channel_is (Some (record entry { direction = d })) direction.Input ≡ true → is_input (direction_in (Some (record entry { direction = d }))) ≡ true
    by direction.Input h = refl
    by direction.Output h = absurd (let no : false ≡ true = h in cc)

pub output-is : (o : Option ChannelContents) → channel_is o direction.Output ≡ true → is_output (direction_in o) ≡ true
output-is None h = absurd (let no : false ≡ true = h in cc)
output-is (Some entry) h = by entry.direction h
  where
    by : (d : _) → channel_is (Some (record entry { direction = d })) direction.Output ≡ true → is_output (direction_in (Some (record entry { direction = d }))) ≡ true
    by direction.Input h = absurd (let no : false ≡ true = h in cc)
    by direction.Output h = refl

module _ (m : ModuleContents) (p : ProcedureContents) where
  -- the slot or the global of a variable
  abbrev pub slot_in : Variable → Option Slot
  slot_in (Global k) = slice_get (machine_code m).globals k
  slot_in (Local k) = slice_get p.slots k

  going : (i : Instruction) (before after : List BaseType) → effect m p i before ≡ Leaves after → goes_on i ≡ true → target_of i ≡ None
      → instruction_refusal m p i ≡ None → Does m p i before after
  going i before after leaves goes no_target fixed =
      record { after = after; leaves = leaves; follows = ap (λ (b : Bool). following b (Leaves after)) goes; no_target = no_target; fixed = fixed }

  pub load-does : (x : Variable) (kind : BaseType) (kinds : List BaseType) → slot_in x ≡ Some (slot.Scalar kind) → Does m p (load_of x) kinds (kind ∷ kinds)
  load-does (Global k) kind kinds h =
      going (instruction.Load storage.Global k) kinds (kind ∷ kinds) (ap (λ (s : Option Slot). Leaves (slot_kind s ∷ kinds)) h) refl refl
      (ap (λ (s : Option Slot). unless (is_scalar s) SlotOrIndex) h)
  load-does (Local k) kind kinds h =
      going (instruction.Load storage.Local k) kinds (kind ∷ kinds) (ap (λ (s : Option Slot). Leaves (slot_kind s ∷ kinds)) h) refl refl
      (ap (λ (s : Option Slot). unless (is_scalar s) SlotOrIndex) h)

  pub store-does : (x : Variable) (kind : BaseType) (kinds : List BaseType) → slot_in x ≡ Some (slot.Scalar kind) → Does m p (store_of x) (kind ∷ kinds) kinds
  store-does (Global k) kind kinds h =
      going (instruction.Store storage.Global k) (kind ∷ kinds) kinds
      (ap (λ (s : Option Slot). exchanged (exchange (slot_kind s ∷ []) None) (kind ∷ kinds)) h ∙ pops-one kind kinds None) refl refl
      (ap (λ (s : Option Slot). unless (is_scalar s) SlotOrIndex) h)
  store-does (Local k) kind kinds h =
      going (instruction.Store storage.Local k) (kind ∷ kinds) kinds
      (ap (λ (s : Option Slot). exchanged (exchange (slot_kind s ∷ []) None) (kind ∷ kinds)) h ∙ pops-one kind kinds None) refl refl
      (ap (λ (s : Option Slot). unless (is_scalar s) SlotOrIndex) h)

  pub load_element-does : (x : Variable) (kind : BaseType) (count : ℕ) (kinds : List BaseType) → slot_in x ≡ Some (slot.Array kind count)
      → Does m p (load_element_of x) (Int ∷ kinds) (kind ∷ kinds)
  load_element-does (Global k) kind count kinds h =
      going (instruction.LoadElement storage.Global k) (Int ∷ kinds) (kind ∷ kinds) (ap (λ (s : Option Slot). Leaves (slot_kind s ∷ kinds)) h) refl refl
      (ap (λ (s : Option Slot). unless (is_array s) SlotOrIndex) h)
  load_element-does (Local k) kind count kinds h =
      going (instruction.LoadElement storage.Local k) (Int ∷ kinds) (kind ∷ kinds) (ap (λ (s : Option Slot). Leaves (slot_kind s ∷ kinds)) h) refl refl
      (ap (λ (s : Option Slot). unless (is_array s) SlotOrIndex) h)

  pub store_element-does : (x : Variable) (kind : BaseType) (count : ℕ) (kinds : List BaseType) → slot_in x ≡ Some (slot.Array kind count)
      → Does m p (store_element_of x) (kind ∷ Int ∷ kinds) kinds
  store_element-does (Global k) kind count kinds h =
      going (instruction.StoreElement storage.Global k) (kind ∷ Int ∷ kinds) kinds
      (ap (λ (s : Option Slot). exchanged (exchange (slot_kind s ∷ Int ∷ []) None) (kind ∷ Int ∷ kinds)) h ∙ pops-two kind kinds) refl refl
      (ap (λ (s : Option Slot). unless (is_array s) SlotOrIndex) h)
  store_element-does (Local k) kind count kinds h =
      going (instruction.StoreElement storage.Local k) (kind ∷ Int ∷ kinds) kinds
      (ap (λ (s : Option Slot). exchanged (exchange (slot_kind s ∷ Int ∷ []) None) (kind ∷ Int ∷ kinds)) h ∙ pops-two kind kinds) refl refl
      (ap (λ (s : Option Slot). unless (is_array s) SlotOrIndex) h)

  pub clear-does : (k : ℕ) (kind : BaseType) (count : ℕ) (kinds : List BaseType) → slice_get p.slots k ≡ Some (slot.Array kind count) → Does m p (instruction.Clear k) kinds kinds
  clear-does k kind count kinds h =
      going (instruction.Clear k) kinds kinds refl refl refl (ap (λ (s : Option Slot). unless (is_array s) SlotOrIndex) h)

  pub push-does : (n : _) (kinds : List BaseType) → Does m p (instruction.Push n) kinds (Int ∷ kinds)
  push-does n kinds = going (instruction.Push n) kinds (Int ∷ kinds) refl refl refl refl

  pub push_boolean-does : (b : Bool) (kinds : List BaseType) → Does m p (instruction.PushBoolean b) kinds (Boolean ∷ kinds)
  push_boolean-does b kinds = going (instruction.PushBoolean b) kinds (Boolean ∷ kinds) refl refl refl refl

  pub pop-does : (kind : BaseType) (kinds : List BaseType) → Does m p instruction.Pop (kind ∷ kinds) kinds
  pop-does kind kinds = going instruction.Pop (kind ∷ kinds) kinds refl refl refl refl

  pub prefix-does : (sign : Prefix) (kinds : List BaseType)
      → Does m p (prefix_instruction sign) (prefix_base sign ∷ kinds) (prefix_base sign ∷ kinds)
  prefix-does prefix.Negate kinds = going (instruction.Operate machine.Negate) (Int ∷ kinds) (Int ∷ kinds) refl refl refl refl
  prefix-does prefix.Not kinds = going (instruction.Operate machine.Not) (Boolean ∷ kinds) (Boolean ∷ kinds) refl refl refl refl

  numbers : (o : _) (kinds : List BaseType) → Does m p (instruction.Operate (machine.Compute o)) (Int ∷ Int ∷ kinds) (Int ∷ kinds)
  numbers o kinds = going (instruction.Operate (machine.Compute o)) (Int ∷ Int ∷ kinds) (Int ∷ kinds) refl refl refl refl

  compares : (o : _) (kinds : List BaseType) → Does m p (instruction.Operate (machine.Compare o)) (Int ∷ Int ∷ kinds) (Boolean ∷ kinds)
  compares o kinds = going (instruction.Operate (machine.Compare o)) (Int ∷ Int ∷ kinds) (Boolean ∷ kinds) refl refl refl refl

  pub operator-does : (o : Operator) (kinds : List BaseType)
      → Does m p (operator_instruction o) (operand_base o ∷ operand_base o ∷ kinds) (result_base o ∷ kinds)
  operator-does (operator.Compute computed) kinds = numbers _ kinds
  operator-does (operator.Compare compared) kinds = compares _ kinds
  operator-does (operator.Match matched) kinds = going (instruction.Operate (machine.Match matched)) (Boolean ∷ Boolean ∷ kinds) (Boolean ∷ kinds) refl refl refl refl

  pub receive-does : (channel : ℕ) (kinds : List BaseType) → is_input (slice_get (machine_code m).directions channel) ≡ true
      → Does m p (instruction.Receive channel) kinds (Int ∷ kinds)
  receive-does channel kinds h =
      going (instruction.Receive channel) kinds (Int ∷ kinds) refl refl refl (unless-right (is_input (slice_get (machine_code m).directions channel)) SlotOrIndex h)

  pub send-does : (channel : ℕ) (kinds : List BaseType) → is_output (slice_get (machine_code m).directions channel) ≡ true
      → Does m p (instruction.Send channel) (Int ∷ kinds) kinds
  send-does channel kinds h =
      going (instruction.Send channel) (Int ∷ kinds) kinds refl refl refl (unless-right (is_output (slice_get (machine_code m).directions channel)) SlotOrIndex h)

  pub call-does : (f : ℕ) (callee : ProcedureContents) (kinds : List BaseType) → slice_get m.procedures f ≡ Some callee
      → Does m p (instruction.Call f) (reverse (parameter_kinds callee) ++ kinds) (pushed callee.returned kinds)
  call-does f callee kinds h =
      let wanted = reverse (parameter_kinds callee) in
      going (instruction.Call f) (wanted ++ kinds) (pushed callee.returned kinds)
      (ap (λ (o : Option ProcedureContents). if (called o).own then exchanged (called o) (wanted ++ kinds) else Misses OperandKind) h
      ∙ ap (λ (e : Effect). and_then e (λ rest. Leaves (pushed callee.returned rest))) (pops-all wanted kinds))
      refl refl (ap (λ (o : Option ProcedureContents). unless (is_some o) SlotOrIndex) h)

  pub return-does : p.returned ≡ None → Does m p instruction.Return [] []
  return-does h = record {
    after = [];
    leaves = ap (λ (r : Option BaseType). if is_none r then exchanged (exchange [] None) [] else Misses OperandKind) h;
    follows = refl;
    no_target = refl;
    fixed = refl;
  }

  pub return_value-does : (kind : BaseType) → p.returned ≡ Some kind → Does m p instruction.ReturnValue (kind ∷ []) []
  return_value-does kind h = record {
    after = [];
    leaves =
        ap (λ (r : Option BaseType). if is_some r then exchanged (exchange (value_kinds r) None) (kind ∷ []) else Misses OperandKind) h
        ∙ pops-one kind [] None;
    follows = refl;
    no_target = refl;
    fixed = refl;
  }

  pub throw-does : (exception : ℕ) → nat_lt exception (machine_code m).exceptions ≡ true → Does m p (instruction.Throw exception) [] []
  throw-does exception h = record {
    after = [];
    leaves = refl;
    follows = refl;
    no_target = refl;
    fixed = unless-right (nat_lt exception (machine_code m).exceptions) SlotOrIndex h;
  }

-- ---- a procedure of a program in a module
pub record Stated (program : Program) (procedure : ProcedureEntry) (m : ModuleContents) (p : ProcedureContents) : Type 0 where
  pub variables_there : (x : Variable) → slot_in m p x ≡ slot_of_type (variable_type program procedure x)
  pub channels_there : (k : ℕ) → slice_get (machine_code m).directions k ≡ direction_in (slice_get program.channels k)
  pub exceptions_there : (machine_code m).exceptions ≡ 3 + length program.exceptions
  pub returned_is : p.returned ≡ returned_kind procedure.result
  pub called_there : (f : ℕ) (callee : ProcedureEntry) → slice_get program.procedures f ≡ Some callee
      → (q : ProcedureContents) × (slice_get m.procedures f ≡ Some q) × (header_of q ≡ header_of (procedure_contents program callee))

-- ---- the kinds of parameters
kinds-more : (b : BaseType) (size : Option ℕ) (slots : List Slot) → kinds_of (declared_slot b size ∷ slots) ≡ b ∷ kinds_of slots
kinds-more b None slots = refl
kinds-more b (Some count) slots = refl

pub parameters-are : (n : ℕ) (slots : List SlotEntry) → kinds_of (take n (map slot_contents slots)) ≡ map (λ (s : SlotEntry). s.base) (take n slots)
parameters-are zero slots = refl
parameters-are (suc n) [] = refl
parameters-are (suc n) (s ∷ slots) =
    kinds-more s.base s.size (take n (map slot_contents slots)) ∙ ap (λ (l : List BaseType). s.base ∷ l) (parameters-are n slots)
