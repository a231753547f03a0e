use Rattle.std.proofs.Common.{◌+◌, ◌*◌, map, None, Some}
use Rattle.syntax.specs.Nodes.{block_nodes, catches_nodes, statement_nodes, statements_nodes}
use Rattle.syntax.specs.Tree.{NestedTree, TryTree, WhileTree, block_tree, catch_tree, catches_of, expression_tree, if_tree, statement_tree, statements_of}
use Rattle.types.proofs.Along.{AlongStatements, AlongCatches}
use Rattle.types.proofs.body.BodyScope.+block.Given as goal

-- each call is of something smaller, or of the same by the function of its form
abbrev pub decreases-resolve_block : goal.decreases-resolve_block
decreases-resolve_block l = 3 * block_nodes (block_tree l.written.now)

abbrev pub decreases-resolve_statements : goal.decreases-resolve_statements
decreases-resolve_statements l = 3 * statements_nodes (statements_of (map statement_tree l.written.now)) + 2

abbrev pub decreases-resolve_catches : goal.decreases-resolve_catches
decreases-resolve_catches l = 3 * catches_nodes (catches_of (map catch_tree l.written.now)) + 2

abbrev pub decreases-resolve_statement : goal.decreases-resolve_statement
decreases-resolve_statement l = 3 * statement_nodes (statement_tree l.written.now) + 1

abbrev pub decreases-resolve_if : goal.decreases-resolve_if
decreases-resolve_if l = 3 * statement_nodes (if_tree l.at (expression_tree l.condition.now) (block_tree l.accepted.now) None)

abbrev pub decreases-resolve_if_else : goal.decreases-resolve_if_else
decreases-resolve_if_else l = 3 * statement_nodes (if_tree l.at (expression_tree l.condition.now) (block_tree l.accepted.now) (Some (block_tree l.otherwise.now)))

abbrev pub decreases-resolve_while : goal.decreases-resolve_while
decreases-resolve_while l = 3 * statement_nodes (WhileTree l.at (expression_tree l.condition.now) (block_tree l.body.now))

abbrev pub decreases-resolve_try : goal.decreases-resolve_try
decreases-resolve_try l = 3 * statement_nodes (TryTree l.at (block_tree l.body.now) (catches_of (map catch_tree l.catches.now)))

abbrev pub decreases-resolve_nested : goal.decreases-resolve_nested
decreases-resolve_nested l = 3 * statement_nodes (NestedTree (block_tree l.block.now))

abbrev pub invariant-resolve_statements-loop-statement : goal.invariant-resolve_statements-loop-statement
invariant-resolve_statements-loop-statement l = AlongStatements l.fn.self l.self l.written l.made.items l.statement-index

abbrev pub invariant-resolve_catches-loop-one : goal.invariant-resolve_catches-loop-one
invariant-resolve_catches-loop-one l = AlongCatches l.fn.self l.self l.written l.handlers.items l.one-index
