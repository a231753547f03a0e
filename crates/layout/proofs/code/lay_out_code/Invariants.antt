use Rattle.std.proofs.Common.{◌≡◌, ◌++◌, map, take, drop}
use Rattle.layout.specs.Offsets.{offset}
use Rattle.modules.specs.Targets.{renamed_instruction}
use Rattle.layout.proofs.code.lay_out_code.Given as goal

-- the instructions so far have their offsets, and the others are as they were
abbrev pub invariant-loop-instruction : goal.invariant-loop-instruction
invariant-loop-instruction l =
    l.instruction-items ≡ map (renamed_instruction (offset l.code)) (take l.instruction-index l.code) ++ drop l.instruction-index l.code
