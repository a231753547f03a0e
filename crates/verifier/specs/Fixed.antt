-- For what an instruction or a handler of a module is refused by itself, and these refusals in the order in which the
-- first is reported: the fixed refusals of the module.
-- Source: our own; the rules are those of a bytecode verifier, as that of the Java virtual machine.
use Rattle.std.specs.Prelude.{ℕ, ◌+◌, ◌==◌, nat_lt, Bool, true, ◌&&◌, ◌||◌, if◌then◌else◌, List, [], ◌∷◌, ◌++◌, length, Option, Some, None, is_some}
use Rattle.std.specs.List.{flat_map}
use Rattle.std.specs.Option.{option_map_or}
use Rattle.modules.specs.Contents.{ProcedureContents, ModuleContents}
use Rattle.modules.specs.Code.{width_of, instruction_at}
use Rattle.modules.specs.Machine.{machine_code}
use Rattle.modules.specs.declared.instruction.Instruction.{Instruction}
use Rattle.modules.specs.declared.declaration.Handler.{Handler}
use Rattle.modules.specs.Opcodes.{code_bytes, entry_of}
use Rattle.verifier.specs.Signatures.{signature}
use Rattle.verifier.specs.declared.fault.CodeRefusalKind.{CodeRefusalKind}
use Rattle.verifier.specs.declared.fault.CodeRefusalKind.TheVariants as kind
use Rattle.verifier.specs.declared.fault.CodeRefusal.{CodeRefusal}

-- whether an instruction's first byte stands at an offset
abbrev pub is_start : ProcedureContents → ℕ → Bool
is_start procedure offset = is_some (instruction_at procedure.code offset)

abbrev pub unless : Bool → CodeRefusalKind → Option CodeRefusalKind
unless right wrong = if right then None else Some wrong

-- what is wrong with an instruction by itself: a target that is no instruction's first byte, or a slot, global, array,
-- procedure, channel or exception that is not there or of another sort
abbrev pub instruction_refusal : ModuleContents → ProcedureContents → Instruction → Option CodeRefusalKind
instruction_refusal m procedure instruction =
    if option_map_or (is_start procedure) (entry_of instruction).target true
    then unless (signature m procedure instruction).there kind.SlotOrIndex
    else Some kind.Jump

-- whether the offsets of a handler are right: its start and target are instructions' first bytes, its end is one or the code's
-- length, and the start stands before the end
abbrev pub has_right_offsets : ProcedureContents → Handler → Bool
has_right_offsets procedure handler =
    is_start procedure handler.start && (is_start procedure handler.target
    && ((is_start procedure handler.end || handler.end == length (code_bytes procedure.code)) && nat_lt handler.start handler.end))

-- what is wrong with a handler
abbrev pub handler_refusal : ModuleContents → ProcedureContents → Handler → Option CodeRefusalKind
handler_refusal m procedure handler =
    if has_right_offsets procedure handler
    then unless (nat_lt handler.exception (machine_code m).exceptions) kind.SlotOrIndex
    else Some kind.Jump

-- the refusal of a procedure at an offset, if it is refused there
abbrev pub refusals_at : ℕ → ℕ → Option CodeRefusalKind → List CodeRefusal
refusals_at number offset wrong = option_map_or (λ kind. record { kind = kind; procedure = number; offset = offset } ∷ []) wrong []

-- the refusals of instructions that stand from an offset on
abbrev pub instruction_refusals : ModuleContents → ℕ → ProcedureContents → ℕ → List Instruction → List CodeRefusal
instruction_refusals m number procedure offset [] = []
instruction_refusals m number procedure offset (instruction ∷ code) =
    refusals_at number offset (instruction_refusal m procedure instruction)
    ++ instruction_refusals m number procedure (offset + width_of instruction) code

-- the refusals of handlers, each at its start
abbrev pub handler_refusals : ModuleContents → ℕ → ProcedureContents → List Handler → List CodeRefusal
handler_refusals m number procedure handlers =
    flat_map (λ handler. refusals_at number handler.start (handler_refusal m procedure handler)) handlers

-- the fixed refusals of procedures that are numbered from a number on
abbrev pub procedure_refusals : ModuleContents → ℕ → List ProcedureContents → List CodeRefusal
procedure_refusals m number [] = []
procedure_refusals m number (procedure ∷ procedures) =
    instruction_refusals m number procedure 0 procedure.code ++ handler_refusals m number procedure procedure.handlers
    ++ procedure_refusals m (number + 1) procedures

-- the fixed refusals of a module: procedures in order, instructions by offset, then handlers in order
abbrev pub fixed_refusals : ModuleContents → List CodeRefusal
fixed_refusals m = procedure_refusals m 0 m.procedures

-- ---- parts of the rules, by which proofs speak of them

-- whether a range may end at an offset: at an instruction's first byte or at the end of the code
abbrev pub is_end : ProcedureContents → ℕ → Bool
is_end procedure offset = is_start procedure offset || offset == length (code_bytes procedure.code)
