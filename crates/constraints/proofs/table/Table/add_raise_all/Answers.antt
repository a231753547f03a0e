use Rattle.constraints.proofs.Joined.{raise-next}
use Rattle.constraints.proofs.table.Table.add_raise_all.Goals as goal

pub loop-expression-preserved : goal.loop-expression-preserved
loop-expression-preserved c =
    raise-next c.args.self.now.core.now c.args.self.now.core.now.labels c.args.procedure c.args.expressions.now c.loop-expression.expression-index c.expression-item.result _ _ _
    c.loop-expression-test.true c.expression-item.is c.loop-expression.invariant c.in_ok-add_raise.ensures.joined
