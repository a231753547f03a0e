-- Private: where control may go: to an instruction's first byte, or to the end of the code.
-- Source: our own.
use Rattle.std.specs.Prelude.{◌≡◌, ℕ, ◌+◌, Some, ◌⊎◌}
use Rattle.std.specs.List.{Contains}
use Rattle.modules.specs.Contents.{ProcedureContents}
use Rattle.modules.specs.Code.{width_of, code_length, instruction_at}
use Rattle.modules.specs.declared.instruction.Instruction.{Instruction}
use Rattle.modules.specs.declared.declaration.Handler.{Handler}
use Rattle.modules.specs.Targets.{target_of}

-- an instruction's offset, or the end
abbrev pub IsBoundary : ProcedureContents → ℕ → Type 0
IsBoundary procedure offset =
    (offset ≡ code_length procedure.code) ⊎ ((i : Instruction) × (instruction_at procedure.code offset ≡ Some i))

-- each offset to which control may go is an instruction's or the end, and each to which it jumps is an instruction's
pub record KeepsBoundaries (procedure : ProcedureContents) : Type 0 where
  pub next : (at : ℕ) (i : Instruction) → instruction_at procedure.code at ≡ Some i → IsBoundary procedure (at + width_of i)
  pub jumps : (at : ℕ) (i : Instruction) (to : ℕ) → instruction_at procedure.code at ≡ Some i → target_of i ≡ Some to → (j : Instruction) × (instruction_at procedure.code to ≡ Some j)
  pub caught : (h : Handler) → Contains procedure.handlers h → IsBoundary procedure h.target
  pub first : IsBoundary procedure 0
