-- A module as text, in lines: its channels, and for each procedure its number, its instructions and its handlers.
-- Source: our own; listing instructions by their byte offsets after disassemblers.
use Rattle.std.specs.Prelude.{ℕ, ◌+◌, ◌-◌, List, [], ◌∷◌, ◌++◌, length, replicate, flat_map, false, codes}
use Rattle.std.specs.Fmt.{decimal, digits}
use Rattle.principals.specs.ActsFor.{PrincipalHierarchy}
use Rattle.labels.specs.Printed.{printed_label}
use Rattle.modules.specs.Code.{width_of}
use Rattle.labels.specs.Channel.{ChannelContents}
use Rattle.modules.specs.Contents.{ModuleContents, ProcedureContents}
use Rattle.modules.specs.Opcodes.{instruction_text}
use Rattle.common.specs.declared.direction.Direction.{Direction}
use Rattle.common.specs.declared.direction.Direction.TheVariants.{Input, Output}
use Rattle.modules.specs.declared.declaration.Handler.{Handler}
use Rattle.modules.specs.declared.instruction.Instruction.{Instruction}

-- ---- lines

abbrev pub direction_word : Direction → List ℕ
direction_word Input = codes "input"
direction_word Output = codes "output"

-- a channel: its direction, its name, and its label with the names of the hierarchy
abbrev pub channel_line : PrincipalHierarchy → ChannelContents → List ℕ
channel_line h channel =
    direction_word channel.direction ++ codes " " ++ channel.name ++ codes " " ++ printed_label h channel.label ++ codes "\n"

abbrev pub procedure_line : ℕ → List ℕ
procedure_line number = codes "proc " ++ decimal number ++ codes "\n"

-- a byte offset in hexadecimal, with zeros in front up to eight digits
abbrev pub offset_text : ℕ → List ℕ
offset_text offset = replicate (8 - length (digits 16 false offset)) 48 ++ digits 16 false offset

abbrev pub instruction_line : ℕ → Instruction → List ℕ
instruction_line offset instruction = offset_text offset ++ codes " " ++ instruction_text instruction ++ codes "\n"

abbrev pub handler_line : Handler → List ℕ
handler_line handler =
    codes "handler " ++ decimal handler.start ++ codes " " ++ decimal handler.end ++ codes " " ++ decimal handler.exception
    ++ codes " " ++ decimal handler.target ++ codes "\n"

-- ---- texts

-- the lines of code whose first byte stands at this offset: each instruction stands after the bytes of those before it
abbrev pub code_text : ℕ → List Instruction → List ℕ
code_text offset [] = []
code_text offset (instruction ∷ code) = instruction_line offset instruction ++ code_text (offset + width_of instruction) code

abbrev pub procedure_text : ℕ → ProcedureContents → List ℕ
procedure_text number procedure =
    procedure_line number ++ code_text 0 procedure.code ++ flat_map handler_line procedure.handlers

-- procedures that are numbered from this number on
abbrev pub procedures_text : ℕ → List ProcedureContents → List ℕ
procedures_text number [] = []
procedures_text number (procedure ∷ procedures) = procedure_text number procedure ++ procedures_text (number + 1) procedures

abbrev pub listing_text : ModuleContents → List ℕ
listing_text m = flat_map (channel_line m.hierarchy) m.channels ++ procedures_text 0 m.procedures
