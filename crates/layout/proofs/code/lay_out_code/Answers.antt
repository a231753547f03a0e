use Rattle.std.proofs.Common.{◌<◌, length, arith}
use Rattle.layout.proofs.Tables.{written_more}
use Rattle.layout.proofs.code.lay_out_code.Goals as goal

pub loop-instruction-preserved : goal.loop-instruction-preserved
loop-instruction-preserved c =
    let below : c.loop-instruction.instruction-index < length c.args.code.now = omega (arith, c.loop-instruction-test.true, c.deref_mut-instruction-items.ensures.len, c.in_ok-made.ensures.len) in
    written_more c.args.code.now c.loop-instruction.instruction-items c.args.table.now c.loop-instruction.instruction-index _ c.lay_out_instruction.new.instruction
    c.requires.table c.requires.targets below c.loop-instruction.invariant c.lay_out_instruction.ensures
