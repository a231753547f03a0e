use Rattle.constraints.proofs.following.CallPath.of.Goals as goal

pub loop-k-preserved : goal.loop-k-preserved
loop-k-preserved c = record {
  way = λ real base rows others. c.add.ensures real base (c.later_label-next.ensures real base rows others) (c.loop-k.invariant.way real base rows others);
}
