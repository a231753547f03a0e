use Rattle.std.proofs.Common.{◌≡◌, map, take}
use Rattle.modules.specs.Targets.{renamed_instruction}
use Rattle.lowering.specs.Threaded.{final_position}
use Rattle.lowering.proofs.threading.thread.Given as goal

-- the instructions so far
abbrev pub invariant-loop-instruction : goal.invariant-loop-instruction
invariant-loop-instruction l = l.made.items ≡ map (renamed_instruction (final_position l.code)) (take l.instruction-index l.code)
