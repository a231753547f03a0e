use Rattle.std.proofs.Common.{arith, pos}
use Rattle.modules.specs.declared.instruction.Instruction.TheVariants.{Push}
use Rattle.verifier.proofs.Offsets.{code_length_within}
use Rattle.verifier.proofs.fixed.refuse.Goals as goal

pub overflow_cast-offset : goal.overflow_cast-offset
overflow_cast-offset c = omega (arith, code_length_within c.args.code.now c.args.number (Push (pos 0)) c.requires.inside, c.code_length-offset.ensures, c.requires.short)
