-- The law of typed code.
-- Source: our own.
use Rattle.std.specs.Prelude.{◌↔◌, All}
use Rattle.modules.specs.Contents.{ModuleContents}
use Rattle.verifier.specs.Refusals.{IsNotRefused}
use Rattle.compiler.specs.TypedCode.{IsTyped}

-- a module's code is typed exactly where no rule of the verifier refuses it
abbrev pub TypedIsNotRefused : Type 0
TypedIsNotRefused = (m : ModuleContents) → All (IsTyped m) m.procedures ↔ IsNotRefused m
