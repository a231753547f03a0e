-- Graphs. A graph contains what a module does, except that the targets of its jumps and handlers and the ranges of its handlers are
-- positions: numbers of instructions in the list of their procedure, from 0 on, where a module has byte offsets.
-- Source: our own.
use Rattle.std.specs.Prelude.{ℕ, ◌<◌, ◌≤◌, List, length, All, IfSome}
use Rattle.modules.specs.declared.instruction.Instruction.{Instruction}
use Rattle.modules.specs.declared.declaration.Handler.{Handler}
use Rattle.modules.specs.Contents.{ProcedureContents, ModuleContents}
use Rattle.modules.specs.ByteFormat.{Fits}
use Rattle.modules.specs.Format.{module_file}
use Rattle.modules.specs.Targets.{target_of}

-- a handler of code of a size, in instructions: its range is not empty and ends with the code at the latest, and its target is a
-- position of the code
pub record IsHandlerIn (size : ℕ) (handler : Handler) : Type 0 where
  pub not_empty : handler.start < handler.end
  pub within : handler.end ≤ size
  pub target : handler.target < size

-- the target of an instruction, if it has one, is a position of the code
abbrev pub HasTargetIn : List Instruction → Instruction → Type 0
HasTargetIn code instruction = IfSome (target_of instruction) (λ target. target < length code)

-- each target of a procedure is a position of its code
pub record HasPositions (procedure : ProcedureContents) : Type 0 where
  pub targets : All (HasTargetIn procedure.code) procedure.code
  pub handlers : All (IsHandlerIn (length procedure.code)) procedure.handlers

-- a graph: its targets are positions, and its numbers, names and lists, and the bytes that its code will take, are within the
-- limits of the module file, whose version has each instruction
pub record IsGraph (graph : ModuleContents) : Type 0 where
  pub positions : All HasPositions graph.procedures
  pub limits : Fits module_file graph
