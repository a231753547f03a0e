use Rattle.std.proofs.Common.{◌+◌, ◌*◌}
use Rattle.resolved.specs.TreeOf.{expression_of}
use Rattle.resolved.specs.WellFormed.{expression_nodes}
use Rattle.lowering.proofs.operands.+value.Given as goal

abbrev pub decreases-push_value : goal.decreases-push_value
decreases-push_value l = 2 * expression_nodes (expression_of l.expression.now)

abbrev pub decreases-push_rest_of_and : goal.decreases-push_rest_of_and
decreases-push_rest_of_and l = 2 * expression_nodes (expression_of l.right.now) + 1

abbrev pub decreases-push_rest_of_or : goal.decreases-push_rest_of_or
decreases-push_rest_of_or l = 2 * expression_nodes (expression_of l.right.now) + 1
