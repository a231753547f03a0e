-- Since which version of the file an instruction exists, as code keeps it.
-- Source: our own.
use Rattle.std.specs.Prelude.{nat_lt, Bool, true, false, if◌then◌else◌}
use Rattle.modules.specs.Opcodes.{entry_of}
use Rattle.modules.specs.declared.instruction.Instruction.{Instruction}
use Rattle.modules.specs.declared.version.Version.{Version}
use Rattle.modules.specs.declared.version.Version.TheVariants.{One, Two}

abbrev pub since_of : Instruction → Version
since_of instruction = if nat_lt (entry_of instruction).byte 0x28 then One else Two

-- what exists since a version exists in a version
abbrev pub exists_in : Version → Version → Bool
exists_in One version = true
exists_in Two One = false
exists_in Two Two = true
