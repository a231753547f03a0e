use Rattle.std.proofs.Common.{length, ◌<◌, arith}
use Rattle.std.proofs.lemmas.Grind.{common_steps}
use Rattle.lowering.proofs.Falling.{over-filled}
use Rattle.lowering.proofs.endings.jumps_over.Goals as goal

pub returns-then-not-is_empty : goal.returns-then-not-is_empty
returns-then-not-is_empty c =
    let filled : 0 < length c.args.else_block.now = grind (arith, common_steps) in
    over-filled c.args.then_block.now c.args.else_block.now c.block_falls.result filled c.block_falls.ensures
