-- What bytes are to the program and to the two texts that they were compiled from.
-- Source: our own; the correctness of a compiler, and isolation carried to what a machine sends (noninterference after Volpano,
-- Smith and Irvine 1996).
use Rattle.std.specs.Prelude.{ℕ, List, All}
use Rattle.resolved.specs.Program.{Program}
use Rattle.modules.specs.Contents.{ModuleContents}
use Rattle.modules.specs.ByteFormat.{Spells}
use Rattle.modules.specs.Format.{module_file}
use Rattle.modules.specs.Isolated.{StaysIsolated}
use Rattle.modules.specs.Machine.{after_steps}
use Rattle.verifier.specs.Safety.{IsNeverStuck}
use Rattle.lowering.specs.Interface.{HasInterfaceOf}
use Rattle.lowering.specs.SameMeaning.{SameMeaning}
use Rattle.acceptance.specs.Accepted.{StandFor}
use Rattle.compiler.specs.TypedCode.{IsTyped}

-- bytes are code of a program: they spell a module, so that no decoder refuses them; its code is typed, so that no verifier refuses it,
-- and no run of it is ever stuck; it has the version of the program, and its principals, channels and exceptions; on every world it sends what the
-- program sends, and ends as the program ends; and it is isolated under every hierarchy that contains its own
pub record IsCodeOf (program : Program) (code : List ℕ) : Type 0 where
  pub contents : ModuleContents
  pub spelled : Spells module_file contents code
  pub typed : All (IsTyped contents) contents.procedures
  pub never_stuck : IsNeverStuck contents
  pub interface : HasInterfaceOf program contents
  pub kept : SameMeaning program (after_steps contents)
  pub isolated : StaysIsolated contents

-- bytes are what a hierarchy text and a source are compiled to: they are code of the program that the two stand for
pub record IsCompiled (hierarchy source code : List ℕ) : Type 0 where
  pub program : Program
  pub stand_for : StandFor hierarchy source program
  pub code_of : IsCodeOf program code
