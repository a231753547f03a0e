use Rattle.std.proofs.Common.{◌+◌, ◌*◌}
use Rattle.syntax.specs.Nodes.{expression_nodes}
use Rattle.syntax.specs.Tree.{expression_tree}
use Rattle.types.proofs.body.BodyScope.+expression.Given as goal

-- each call is of something smaller, or of the same by the function of its form
abbrev pub decreases-resolve_expression : goal.decreases-resolve_expression
decreases-resolve_expression l = 2 * expression_nodes (expression_tree l.written.now) + 1

abbrev pub decreases-resolve_element : goal.decreases-resolve_element
decreases-resolve_element l = 2 * expression_nodes (expression_tree l.index.now) + 2

abbrev pub decreases-resolve_unary : goal.decreases-resolve_unary
decreases-resolve_unary l = 2 * expression_nodes (expression_tree l.operand.now) + 2

abbrev pub decreases-resolve_binary : goal.decreases-resolve_binary
decreases-resolve_binary l = 2 * (expression_nodes (expression_tree l.left.now) + expression_nodes (expression_tree l.right.now)) + 2
