use Rattle.std.proofs.Common.{map, drop, subst, ◌+◌}
use Rattle.resolved.specs.TreeOf.{expression_of}
use Rattle.lowering.proofs.Appending.{AreAdded, one-argument}
use Rattle.lowering.proofs.Trees.{next-argument}
use Rattle.lowering.proofs.operands.push_arguments.Goals as goal

pub loop-argument-preserved : goal.loop-argument-preserved
loop-argument-preserved c =
    let all = map expression_of c.args.arguments.now in
    one-argument c.args.code.now.items c.loop-argument.code.items c.push_value.new.code.items all
    (map expression_of (drop (c.loop-argument.argument-index + 1) c.args.arguments.now)) (expression_of c.argument-item.result)
    (subst (λ left. AreAdded c.args.code.now.items all c.loop-argument.code.items left)
    (next-argument c.args.arguments.now c.loop-argument.argument-index c.argument-item.result c.loop-argument-test.true c.argument-item.is)
    c.loop-argument.invariant)
    c.in_ok-push_value.ensures
