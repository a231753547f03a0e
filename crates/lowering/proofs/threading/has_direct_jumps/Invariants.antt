use Rattle.std.specs.Prelude.{All, take}
use Rattle.lowering.specs.Direct.{IsDirect}
use Rattle.lowering.proofs.threading.has_direct_jumps.Given as goal

-- none of the instructions so far jumps to an unconditional jump
abbrev pub invariant-loop-instruction : goal.invariant-loop-instruction
invariant-loop-instruction l = All (IsDirect l.code) (take l.instruction-index l.code)
