-- The signature of an instruction in a procedure: whether what it names is there, whether the procedure may have it, and what it pops
-- and pushes; one entry for each, as the verifier's code reads it. That it agrees with the machine's rule is proved with typed code.
-- Source: our own; the rules are those of a bytecode verifier, as that of the Java virtual machine.
use Rattle.std.specs.Prelude.{ℕ, nat_lt, Bool, true, false, List, [], ◌∷◌, map, reverse, slice_get, Option, Some, None, is_none, is_some}
use Rattle.std.specs.Option.{option_map_or, option_to_list}
use Rattle.modules.specs.Contents.{ProcedureContents, ModuleContents}
use Rattle.modules.specs.Machine.{machine_code, parameter_kinds}
use Rattle.modules.specs.Opcodes.{by_storage}
use Rattle.modules.specs.Operators.{rule_of}
use Rattle.modules.specs.Values.{kind_of_slot}
use Rattle.modules.specs.declared.instruction.Instruction.{Instruction}
use Rattle.modules.specs.declared.instruction.Storage.{Storage}
use Rattle.modules.specs.declared.instruction.Instruction.TheVariants.{Push, PushBoolean, Pop, Load, Store, LoadElement, StoreElement, Clear, Operate, Jump, JumpIfFalse, Call, Return, ReturnValue, Receive, Send, Throw}
use Rattle.common.specs.declared.base_type.BaseType.{BaseType}
use Rattle.common.specs.declared.base_type.BaseType.TheVariants.{Int, Boolean}
use Rattle.modules.specs.declared.declaration.Slot.{Slot}
use Rattle.modules.specs.declared.declaration.Slot.TheVariants as slot
use Rattle.common.specs.declared.direction.Direction.{Direction}
use Rattle.common.specs.declared.direction.Direction.TheVariants.{Input, Output}

-- whether the slot, global, array, procedure, channel or exception that the instruction names is there and of the right sort, where
-- it names one; whether it is one of its procedure, as a return has a value exactly where one is due; the kinds that it pops, the first
-- one from the top, where none is any kind; and the kind that it then pushes
pub record InstructionSignature : Type 0 where
  pub there : Bool
  pub own : Bool
  pub pops : List (Option BaseType)
  pub pushes : Option BaseType

-- ---- the pieces of an entry

-- pop these kinds, and push one
abbrev pub exchange : List BaseType → Option BaseType → InstructionSignature
exchange kinds pushes = record { there = true; own = true; pops = map (λ kind. Some kind) kinds; pushes = pushes }

-- the same, of what is there or not
abbrev pub naming : Bool → InstructionSignature → InstructionSignature
naming there signature = record signature { there = there }

-- whether a slot or a global is there and a scalar, or an array
abbrev pub is_scalar : Option Slot → Bool
is_scalar (Some (slot.Scalar kind)) = true
is_scalar _ = false

abbrev pub is_array : Option Slot → Bool
is_array (Some (slot.Array kind count)) = true
is_array _ = false

-- whether a channel is there and an input, or an output
abbrev pub is_input : Option Direction → Bool
is_input (Some Input) = true
is_input _ = false

abbrev pub is_output : Option Direction → Bool
is_output (Some Output) = true
is_output _ = false

-- the kind of a slot or a global
abbrev pub slot_kind : Option Slot → BaseType
slot_kind slot = option_map_or kind_of_slot slot Int

-- a slot of the procedure or a global, as it is declared
abbrev pub declared_in : ModuleContents → ProcedureContents → Storage → ℕ → Option Slot
declared_in m procedure storage k = slice_get (by_storage storage procedure.slots (machine_code m).globals) k

-- what goes by the kind of a scalar, or of an array
abbrev scalar : Option Slot → (BaseType → InstructionSignature) → InstructionSignature
scalar slot signature = naming (is_scalar slot) (signature (slot_kind slot))

abbrev array : Option Slot → (BaseType → InstructionSignature) → InstructionSignature
array slot signature = naming (is_array slot) (signature (slot_kind slot))

-- a call pops the arguments, the last one first, and its return pushes the value, if there is one
abbrev pub called : Option ProcedureContents → InstructionSignature
called callee = option_map_or (λ c. exchange (reverse (parameter_kinds c)) c.returned) callee (exchange [] None)

-- ---- the entries

abbrev pub signature : ModuleContents → ProcedureContents → Instruction → InstructionSignature
signature m procedure (Push n) = exchange [] (Some Int)
signature m procedure (PushBoolean b) = exchange [] (Some Boolean)
signature m procedure Pop = record (exchange [] None) { pops = None ∷ [] }
signature m procedure (Load storage k) = scalar (declared_in m procedure storage k) (λ kind. exchange [] (Some kind))
signature m procedure (Store storage k) = scalar (declared_in m procedure storage k) (λ kind. exchange (kind ∷ []) None)
signature m procedure (LoadElement storage k) = array (declared_in m procedure storage k) (λ kind. exchange (Int ∷ []) (Some kind))
signature m procedure (StoreElement storage k) = array (declared_in m procedure storage k) (λ kind. exchange (kind ∷ Int ∷ []) None)
signature m procedure (Clear k) = array (slice_get procedure.slots k) (λ kind. exchange [] None)
signature m procedure (Operate operator) = exchange (rule_of operator).operands (Some (rule_of operator).value_kind)
signature m procedure (Jump target) = exchange [] None
signature m procedure (JumpIfFalse target) = exchange (Boolean ∷ []) None
signature m procedure (Call callee) = naming (is_some (slice_get m.procedures callee)) (called (slice_get m.procedures callee))
signature m procedure Return = record (exchange [] None) { own = is_none procedure.returned }
signature m procedure ReturnValue = record (exchange (option_to_list procedure.returned) None) { own = is_some procedure.returned }
signature m procedure (Receive channel) = naming (is_input (slice_get (machine_code m).directions channel)) (exchange [] (Some Int))
signature m procedure (Send channel) = naming (is_output (slice_get (machine_code m).directions channel)) (exchange (Int ∷ []) None)
signature m procedure (Throw exception) = naming (nat_lt exception (machine_code m).exceptions) (exchange [] None)
