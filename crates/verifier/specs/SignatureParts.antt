-- Parts of signatures, of the flow of operands and of what stays safe by names of their own, as code and lemmas speak of them.
-- Source: our own.
use Rattle.std.specs.Prelude.{ℕ, List, ◌∷◌, Option, None, Some, if◌then◌else◌}
use Rattle.std.specs.Option.{option_map_or, option_to_list}
use Rattle.common.specs.declared.base_type.BaseType.{BaseType}
use Rattle.modules.specs.Code.{width_of}
use Rattle.modules.specs.Targets.{goes_on}
use Rattle.modules.specs.declared.instruction.Instruction.{Instruction}
use Rattle.modules.specs.Machine.{Machine, Running, Ended, Stuck}

-- a return pops the value that is due
abbrev pub value_kinds : Option BaseType → List BaseType
value_kinds returned = option_to_list returned

abbrev pub pushed : Option BaseType → List BaseType → List BaseType
pushed pushes kinds = option_map_or (λ kind. kind ∷ kinds) pushes kinds

-- after how many bytes control goes on from an instruction, if it goes on to the next one
abbrev pub next_of : Instruction → Option ℕ
next_of instruction = if goes_on instruction then Some (width_of instruction) else None

-- no offset has a list of operands
abbrev pub nowhere : ℕ → Option (List BaseType)
nowhere offset = None

-- a machine that is not stuck
abbrev pub HasTransition : Machine → Type 0
HasTransition (Running s) = Unit {0}
HasTransition (Ended ending sent) = Unit {0}
HasTransition (Stuck sent) = ⊥
