-- The flow of operands through a procedure: what becomes of their kinds at each instruction, where control goes from it, the kinds
-- with which control reaches an offset, and the refusals of that flow.
-- Source: our own; the rules are those of a bytecode verifier, as that of the Java virtual machine.
use Rattle.common.specs.Functions.{updated}
use Rattle.std.specs.Prelude.{◌≡◌, ◌≢◌, ℕ, ◌+◌, ◌≤◌, ◌<◌, ◌==◌, true, if◌then◌else◌, List, [], ◌∷◌, length, Option, Some, None}
use Rattle.std.specs.List.{Contains}
use Rattle.std.specs.Option.{option_map_or}
use Rattle.modules.specs.Contents.{ProcedureContents, ModuleContents}
use Rattle.modules.specs.Code.{width_of, code_length, instruction_at}
use Rattle.modules.specs.Opcodes.{entry_of}
use Rattle.modules.specs.Values.{is_same_kind}
use Rattle.modules.specs.declared.instruction.Instruction.{Instruction}
use Rattle.common.specs.declared.base_type.BaseType.{BaseType}
use Rattle.modules.specs.declared.declaration.Handler.{Handler}
use Rattle.verifier.specs.Signatures.{InstructionSignature, signature}
use Rattle.verifier.specs.declared.fault.CodeRefusalKind.{CodeRefusalKind}
use Rattle.verifier.specs.declared.fault.CodeRefusalKind.TheVariants.{OperandKind, OperandDepth, FallsOffEnd}

-- ---- what an instruction makes of the operands

-- what becomes of the kinds of the operands, the top first: other kinds, or a refusal
pub data Effect : Type 0 where
  Leaves : List BaseType → Effect
  Misses : CodeRefusalKind → Effect

-- pop an operand of a kind, or of any
abbrev pub popped : Option BaseType → List BaseType → Effect
popped wanted [] = Misses OperandDepth
popped None (kind ∷ kinds) = Leaves kinds
popped (Some wanted) (kind ∷ kinds) = if is_same_kind wanted kind then Leaves kinds else Misses OperandKind

abbrev pub and_then : Effect → (List BaseType → Effect) → Effect
and_then (Leaves kinds) more = more kinds
and_then (Misses wrong) more = Misses wrong

abbrev pub all_popped : List (Option BaseType) → List BaseType → Effect
all_popped [] kinds = Leaves kinds
all_popped (wanted ∷ more) kinds = and_then (popped wanted kinds) (all_popped more)

-- pop, then push
abbrev pub exchanged : InstructionSignature → List BaseType → Effect
exchanged s kinds = and_then (all_popped s.pops kinds) (λ rest. Leaves (option_map_or (λ kind. kind ∷ rest) s.pushes rest))

-- what an instruction makes of the kinds of the operands
abbrev pub effect : ModuleContents → ProcedureContents → Instruction → List BaseType → Effect
effect m procedure instruction kinds =
    if (signature m procedure instruction).own then exchanged (signature m procedure instruction) kinds else Misses OperandKind

-- ---- where control goes

-- control may go from an offset with operands of some kinds to another offset with operands of others: to the next instruction,
-- to a target, or without operands to a handler whose range holds the offset, whatever the instruction there finds
pub data Edge (m : ModuleContents) (procedure : ProcedureContents) (at : ℕ) (kinds : List BaseType) : ℕ → List BaseType → Type 0 where
  next : (i : Instruction) (to : ℕ) (after : List BaseType) → instruction_at procedure.code at ≡ Some i → effect m procedure i kinds ≡ Leaves after → (entry_of i).goes_on ≡ true → to ≡ at + width_of i → Edge m procedure at kinds to after
  jumps : (i : Instruction) (to : ℕ) (after : List BaseType) → instruction_at procedure.code at ≡ Some i → effect m procedure i kinds ≡ Leaves after → (entry_of i).target ≡ Some to → Edge m procedure at kinds to after
  caught : (i : Instruction) (handler : Handler) → instruction_at procedure.code at ≡ Some i → Contains procedure.handlers handler → handler.start ≤ at → at < handler.end → Edge m procedure at kinds handler.target []

-- ---- the flow

-- the tables of lists by offset that the flow may give: control starts at 0 without operands, and along an edge from an offset
-- that has a list an offset gets one that has none yet. So a list that conflicts with an earlier one goes no further
pub data Flow (m : ModuleContents) (procedure : ProcedureContents) : (ℕ → Option (List BaseType)) → Type 0 where
  starts : Flow m procedure (updated (λ offset. None) 0 (Some []))
  grows : (table : ℕ → Option (List BaseType)) (at : ℕ) (kinds : List BaseType) (to : ℕ) (after : List BaseType) → Flow m procedure table → table at ≡ Some kinds → Edge m procedure at kinds to after → table to ≡ None → Flow m procedure (updated table to (Some after))

-- the refusal of two paths that meet with different lists
abbrev pub between : List BaseType → List BaseType → CodeRefusalKind
between kinds others = if length kinds == length others then OperandKind else OperandDepth

-- a refusal of the flow at an offset: an instruction that control reaches misses an operand or finds one of another kind; an edge
-- brings another list to an instruction than it has; control comes to the end of the code
pub data IsRefusedForOperands (m : ModuleContents) (procedure : ProcedureContents) : ℕ → CodeRefusalKind → Type 0 where
  misses : (table : ℕ → Option (List BaseType)) (at : ℕ) (kinds : List BaseType) (i : Instruction) (wrong : CodeRefusalKind) → Flow m procedure table → table at ≡ Some kinds → instruction_at procedure.code at ≡ Some i → effect m procedure i kinds ≡ Misses wrong → IsRefusedForOperands m procedure at wrong
  meets : (table : ℕ → Option (List BaseType)) (at : ℕ) (kinds : List BaseType) (to : ℕ) (after others : List BaseType) → Flow m procedure table → table at ≡ Some kinds → Edge m procedure at kinds to after → to ≢ code_length procedure.code → table to ≡ Some others → after ≢ others → IsRefusedForOperands m procedure to (between after others)
  falls : (table : ℕ → Option (List BaseType)) (kinds : List BaseType) → Flow m procedure table → table (code_length procedure.code) ≡ Some kinds → IsRefusedForOperands m procedure (code_length procedure.code) FallsOffEnd

-- no refusal of the flow
abbrev pub FlowsWell : ModuleContents → ProcedureContents → Type 0
FlowsWell m procedure = (offset : ℕ) (kind : CodeRefusalKind) → IsRefusedForOperands m procedure offset kind → ⊥
