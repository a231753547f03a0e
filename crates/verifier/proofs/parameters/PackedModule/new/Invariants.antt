use Rattle.std.proofs.Common.{◌≡◌, map, take}
use Rattle.verifier.specs.Parameters.{parameter_blocks}
use Rattle.verifier.proofs.parameters.PackedModule.new.Given as goal

-- the parameters of the procedures so far
abbrev pub invariant-loop-procedure : goal.invariant-loop-procedure
invariant-loop-procedure l = l.parameters.items ≡ map parameter_blocks (take l.procedure-index l.fn.program.procedures)
