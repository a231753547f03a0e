-- Private: what the globals of a program hold at first, as a module file keeps it.
-- Source: our own.
use Rattle.std.specs.Prelude.{All, FitsSigned}
use Rattle.std.specs.Int.{w32}
use Rattle.common.specs.declared.value.Value.{Value}
use Rattle.common.specs.declared.value.Value.TheVariants as value
use Rattle.resolved.specs.Program.{Program, GlobalEntry}

-- a number of 32 bits, or a truth
abbrev pub IsShortValue : Value → Type 0
IsShortValue (value.Int z) = FitsSigned w32 z
IsShortValue (value.Bool b) = Unit {0}

-- what the globals hold at first is of 32 bits, as in every program of the code
abbrev pub HasShortValues : Program → Type 0
HasShortValues program = All (λ (entry : GlobalEntry). IsShortValue entry.first) program.globals
