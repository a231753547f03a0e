-- The targets of a module: byte offsets where instructions begin.
-- Source: our own; the rule for jumps and handlers of a bytecode verifier, as that of the Java virtual machine.
use Rattle.std.specs.Prelude.{◌≡◌, ℕ, ◌<◌, ◌⊎◌, List, All, IfSome, IsSome}
use Rattle.modules.specs.declared.instruction.Instruction.{Instruction}
use Rattle.modules.specs.declared.declaration.Handler.{Handler}
use Rattle.modules.specs.Code.{code_length, instruction_at}
use Rattle.modules.specs.Contents.{ProcedureContents}
use Rattle.modules.specs.Targets.{target_of}

-- a byte offset is that of an instruction's first byte
abbrev pub IsStart : List Instruction → ℕ → Type 0
IsStart code offset = IsSome (instruction_at code offset)

-- a handler of code: its start and its target are instructions' first bytes, its end is one or the end of the code, and its range
-- is not empty
pub record IsHandlerOf (code : List Instruction) (handler : Handler) : Type 0 where
  pub start : IsStart code handler.start
  pub end : IsStart code handler.end ⊎ (handler.end ≡ code_length code)
  pub target : IsStart code handler.target
  pub not_empty : handler.start < handler.end

-- each target of a procedure is an instruction's first byte
pub record HasStarts (procedure : ProcedureContents) : Type 0 where
  pub targets : All (λ instruction. IfSome (target_of instruction) (IsStart procedure.code)) procedure.code
  pub handlers : All (IsHandlerOf procedure.code) procedure.handlers
