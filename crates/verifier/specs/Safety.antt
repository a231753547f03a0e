-- What a verified module promises: no step of any run of it lacks a transition.
-- Source: our own; the promise is that of a bytecode verifier, as that of the Java virtual machine.
use Rattle.std.specs.Prelude.{ℕ, ◌≢◌, List, ℤ}
use Rattle.common.specs.declared.sent.Pair.{Pair}
use Rattle.modules.specs.Contents.{ModuleContents}
use Rattle.modules.specs.Machine.{Stuck, after_steps}

-- on every world and after any number of steps, the machine is not stuck
abbrev pub IsNeverStuck : ModuleContents → Type 0
IsNeverStuck m = (world : ℕ → List ℤ) (n : ℕ) (sent : List Pair) → after_steps m world n ≢ Stuck sent
