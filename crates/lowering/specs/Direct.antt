-- What it means that no jump leads to an unconditional jump.
-- Source: our own.
use Rattle.std.specs.Prelude.{◌≡◌, ℕ, List, All, IfSome, Option, Some, None, slice_get, if◌then◌else◌}
use Rattle.modules.specs.declared.instruction.Instruction.{Instruction}
use Rattle.modules.specs.Contents.{ProcedureContents}
use Rattle.modules.specs.Targets.{goes_on, target_of}

-- where an unconditional jump goes: it has a target, and control does not go on after it
abbrev pub jump_of : Option Instruction → Option ℕ
jump_of None = None
jump_of (Some instruction) = if goes_on instruction then None else target_of instruction

-- at the target of an instruction, if it has one, stands no unconditional jump
abbrev pub IsDirect : List Instruction → Instruction → Type 0
IsDirect code instruction = IfSome (target_of instruction) (λ target. jump_of (slice_get code target) ≡ None)

abbrev pub HasDirectJumps : ProcedureContents → Type 0
HasDirectJumps procedure = All (IsDirect procedure.code) procedure.code
