use Rattle.resolved.specs.TreeOf.{expression_of}
use Rattle.resolved.specs.WellFormed.{expression_nodes}
use Rattle.lowering.proofs.conditions.+push_branch.Given as goal

abbrev pub decreases-push_branch : goal.decreases-push_branch
decreases-push_branch l = expression_nodes (expression_of l.condition.now)
