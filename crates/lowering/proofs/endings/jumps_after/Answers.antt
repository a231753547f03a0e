use Rattle.std.proofs.Common.{length, ◌<◌, arith}
use Rattle.std.proofs.lemmas.Grind.{common_steps}
use Rattle.lowering.proofs.Falling.{beyond-filled}
use Rattle.lowering.proofs.endings.jumps_after.Goals as goal

pub returns-then-not-is_empty : goal.returns-then-not-is_empty
returns-then-not-is_empty c =
    let filled : 0 < length c.args.beyond.now = grind (arith, common_steps) in
    beyond-filled c.args.block.now c.args.beyond.now c.block_falls.result filled c.block_falls.ensures
