-- Byte offsets instead of positions: where the instruction at a position stands, and the module that a graph is laid out as.
-- Source: our own.
use Rattle.std.specs.Prelude.{ℕ, zero, suc, ◌+◌, List, [], ◌∷◌, map, slice_get}
use Rattle.modules.specs.declared.instruction.Instruction.{Instruction}
use Rattle.modules.specs.Code.{width_of}
use Rattle.modules.specs.Contents.{ProcedureContents, ModuleContents}
use Rattle.modules.specs.MachineParts.{code_of}
use Rattle.modules.specs.Targets.{renamed_instruction, renamed_handler}

-- the byte offset of a position: the bytes of the instructions before it. At the end of the code that is how many bytes the code
-- takes, and after the end it goes on by one
abbrev pub offset : List Instruction → ℕ → ℕ
offset [] position = position
offset (instruction ∷ code) zero = 0
offset (instruction ∷ code) (suc position) = width_of instruction + offset code position

-- the same procedure with byte offsets instead of positions
abbrev pub laid_out_procedure : ProcedureContents → ProcedureContents
laid_out_procedure procedure = record procedure {
  code = map (renamed_instruction (offset procedure.code)) procedure.code;
  handlers = map (renamed_handler (offset procedure.code)) procedure.handlers;
}

-- the module that a graph is laid out as: the same with byte offsets instead of positions, procedure by procedure
abbrev pub laid_out : ModuleContents → ModuleContents
laid_out graph = record graph { procedures = map laid_out_procedure graph.procedures }

-- the byte offset of a position of one of a graph's procedures
abbrev pub offset_in : ModuleContents → ℕ → ℕ → ℕ
offset_in graph procedure position = offset (code_of (slice_get graph.procedures procedure)) position
