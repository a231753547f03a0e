use Rattle.verifier.proofs.Arguments.{reversed, IsPacking}
use Rattle.verifier.proofs.parameters.Parameters.of.Given as goal

abbrev pub invariant-loop-count : goal.invariant-loop-count
invariant-loop-count l = IsPacking (reversed l.procedure.parameters l.procedure.slots) l.slots l.blocks.items l.count

abbrev pub decreases-loop-count : goal.decreases-loop-count
decreases-loop-count l = l.count
