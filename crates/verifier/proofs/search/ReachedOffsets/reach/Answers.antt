use Rattle.std.proofs.Common.{arith}
use Rattle.verifier.proofs.Offsets.{code_length_least}
use Rattle.verifier.proofs.search.ReachedOffsets.reach.Goals as goal

pub overflow_cast-number : goal.overflow_cast-number
overflow_cast-number c = omega (arith, c.requires.place.inside, code_length_least c.args.body.now.procedure.now.code, c.requires.body.short)
