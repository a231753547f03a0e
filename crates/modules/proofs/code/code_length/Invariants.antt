use Rattle.std.proofs.Common.{take, ◌≡◌}
use Rattle.modules.specs.Code.{code_length}
use Rattle.modules.proofs.code.code_length.Given as goal

-- the bytes of the instructions so far
abbrev pub invariant-loop-instruction : goal.invariant-loop-instruction
invariant-loop-instruction l = l.length ≡ code_length (take l.instruction-index l.code)
