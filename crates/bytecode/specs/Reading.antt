-- Private: how the functions that read relate to reading as it is defined.
-- Source: our own.
use Rattle.std.specs.Global.{Global}
use Rattle.std.specs.Prelude.{◌≡◌, ℕ, ◌+◌, ◌-◌, ◌≤◌, List, ◌++◌, String, drop, length, map, Result, Ok, Err, string_bytes}
use Rattle.common.specs.Answers.{Answers}
use Rattle.common.specs.declared.fault.OrNoMemory.{OrNoMemory}
use Rattle.modules.specs.ByteFormat.{code_at, instruction_in}
use Rattle.modules.specs.FormatParts.{FieldsOfVersion}
use Rattle.modules.specs.Opcodes.{instructions}
use Rattle.modules.specs.declared.instruction.Instruction.{Instruction}
use Rattle.modules.specs.declared.version.Version.{Version}
use Rattle.modules.specs.declared.contents.Contents.{Contents}
use Rattle.modules.specs.declared.fault.ReadRefusal.{ReadRefusal}

-- what a function returned, seen by the view, is what reading gives, unless memory ran out
abbrev pub Decodes : {A B : Type 0} → (A → B) → Result A (OrNoMemory ReadRefusal) → Result B ReadRefusal → Type 0
Decodes view result read = Answers (λ x. read ≡ Ok (view x)) (λ stop. read ≡ Err stop) result

-- texts by their bytes
abbrev pub texts : List (String Global) → List (List ℕ)
texts names = map (λ name. string_bytes name) names

-- the fields after the version of a module that was read
abbrev pub fields_of : Contents → FieldsOfVersion
fields_of contents = (
  contents.hierarchy,
  (
    (texts contents.exceptions.items, contents.channels.items),
    (contents.globals.items, (contents.procedures.items, contents.main)),
  ),
)

-- an instruction is what the first this many bytes give in a version, whatever follows them, where the code has room for it
abbrev pub IsFirst : Version → ℕ → Instruction → List ℕ → Type 0
IsFirst version width instruction bytes =
    (room : ℕ) (more : List ℕ) → width ≤ room
    → instruction_in (instructions version) room (bytes ++ more) ≡ Ok (instruction, drop width bytes ++ more)

-- with the bytes of the rest to read after the new instructions, code comes to what it comes to with all bytes after the old ones;
-- whatever follows, and however many bytes of that are code
abbrev pub GoesOn : Version → List Instruction → List Instruction → List ℕ → List ℕ → Type 0
GoesOn version old new bytes rest =
    (size extra : ℕ) (more : List ℕ) → length bytes + extra + length old ≤ size
    → code_at (instructions version) (size - length new) (length rest + extra) new (rest ++ more)
    ≡ code_at (instructions version) (size - length old) (length bytes + extra) old (bytes ++ more)

-- bytes are what is left of others when those before them are read
abbrev pub IsRest : List ℕ → List ℕ → Type 0
IsRest bytes rest = (length rest ≤ length bytes) × (rest ≡ drop (length bytes - length rest) bytes)
