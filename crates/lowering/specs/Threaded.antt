-- Private: jump threading. A jump to an unconditional jump goes at once where that one leads in the end. All else stays: the code is as
-- long as before, each instruction has its position, and the handlers are the same.
-- Source: our own; jump threading as textbooks on compilers give it.
use Rattle.std.specs.Prelude.{ℕ, zero, suc, List, length, map, slice_get, Option, Some, None, nat_lt, if◌then◌else◌}
use Rattle.modules.specs.declared.instruction.Instruction.{Instruction}
use Rattle.modules.specs.Targets.{renamed_instruction}
use Rattle.lowering.specs.Direct.{jump_of}

-- from a position where an unconditional jump goes forward on from its target, and else no further
abbrev pub onward : (position : ℕ) → (on : ℕ → ℕ) → (jump : Option ℕ) → ℕ
onward position on None = position
onward position on (Some target) = if nat_lt position target then on target else position

-- the position to which unconditional jumps that go forward lead from a position, with the number of those that are followed at most
abbrev pub followed : (jumps : ℕ) → List Instruction → (position : ℕ) → ℕ
followed zero code position = position
followed (suc jumps) code position = onward position (followed jumps code) (jump_of (slice_get code position))

-- all of them are followed: there are no more than instructions
abbrev pub final_position : List Instruction → ℕ → ℕ
final_position code position = followed (length code) code position

abbrev pub threaded : List Instruction → List Instruction
threaded code = map (renamed_instruction (final_position code)) code
