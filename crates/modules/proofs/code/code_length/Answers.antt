use Rattle.std.proofs.Common.{arith, take, get_or, length-take-le, pos}
use Rattle.modules.specs.declared.instruction.Instruction.TheVariants.{Push}
use Rattle.modules.proofs.Widths.{code_length_more, code_length_most, width_of-most}
use Rattle.modules.proofs.code.code_length.Goals as goal

-- an instruction takes at most five bytes of code, and eight of memory
pub overflow_add-length : goal.overflow_add-length
overflow_add-length c =
    let k = c.loop-instruction.instruction-index in
    omega (arith, c.loop-instruction.invariant, code_length_most (take k c.args.code.now), length-take-le k c.args.code.now, c.width-length.ensures, width_of-most (get_or c.args.code.now k (Push (pos 0))))

pub loop-instruction-preserved : goal.loop-instruction-preserved
loop-instruction-preserved c =
    omega (arith, c.loop-instruction.invariant, c.width-length.ensures, code_length_more c.args.code.now c.loop-instruction.instruction-index (Push (pos 0)) c.loop-instruction-test.true)
