use Rattle.std.proofs.Common.{arith}
use Rattle.verifier.proofs.Trees.{width_twice}
use Rattle.verifier.proofs.ends.MaximumTree.restart.Goals as goal

pub loop-width-preserved : goal.loop-width-preserved
loop-width-preserved c = record {
  power = width_twice c.loop-width.width c.loop-width.invariant.power;
  positive = omega (arith, c.loop-width.invariant.positive);
  small = omega (arith, c.loop-width-test.true, c.requires);
}
