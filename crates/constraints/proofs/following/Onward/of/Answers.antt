use Rattle.constraints.proofs.Paths.{item-there}
use Rattle.constraints.proofs.following.Onward.of.Goals as goal

pub loop-constraint-preserved : goal.loop-constraint-preserved
loop-constraint-preserved c = record {
  onward = c.note_all.ensures c.args.constraints.now
      (item-there c.args.constraints.now c.loop-constraint.constraint-index c.constraint-item.result c.loop-constraint-test.true c.constraint-item.is)
      c.loop-constraint.invariant.onward;
}
