use Rattle.std.proofs.Common.{◌≡◌, ℕ, ◌+◌, ◌*◌, drop, map}
use Rattle.resolved.specs.TreeOf.{block_of, handlers_of, statement_of}
use Rattle.resolved.specs.WellFormed.{block_nodes, handlers_nodes, statement_nodes}
use Rattle.resolved.specs.declared.statement.Handler.{Handler}
use Rattle.constraints.specs.Ready.{entries_of, AreHandlersReady, AreStatementsReady}
use Rattle.constraints.proofs.Along.{Along, Handling}
use Rattle.constraints.proofs.walking.+walk.Given as goal

-- each call is of something smaller, or of the same by a smaller part of the walk
abbrev pub decreases-walk_block : goal.decreases-walk_block
decreases-walk_block l = 5 * block_nodes (block_of l.block.now) + 5

abbrev pub decreases-walk_statements : goal.decreases-walk_statements
decreases-walk_statements l = 5 * block_nodes (block_of l.block.now) + 4

abbrev pub decreases-walk_statement : goal.decreases-walk_statement
decreases-walk_statement l = 5 * statement_nodes (statement_of l.statement.now) + 3

abbrev pub decreases-walk_form : goal.decreases-walk_form
decreases-walk_form l = 5 * statement_nodes (statement_of l.statement.now) + 2

abbrev pub decreases-walk_if : goal.decreases-walk_if
decreases-walk_if l = 5 * (block_nodes (block_of l.then_block.now) + block_nodes (block_of l.else_block.now)) + 6

abbrev pub decreases-walk_while : goal.decreases-walk_while
decreases-walk_while l = 5 * block_nodes (block_of l.body.now) + 6

abbrev pub decreases-walk_try : goal.decreases-walk_try
decreases-walk_try l = 5 * (block_nodes (block_of l.block.now) + handlers_nodes (handlers_of l.handlers.now)) + 6

abbrev pub decreases-walk_handlers : goal.decreases-walk_handlers
decreases-walk_handlers l = 5 * handlers_nodes (handlers_of l.handlers.now) + 5

abbrev pub invariant-walk_statements-loop-statement : goal.invariant-walk_statements-loop-statement
invariant-walk_statements-loop-statement l = record {
  along : Along l.walk.table.now.core.now l.walk.table.now.core.now.labels (entries_of l.walk.map.now) l.walk.procedure l.fn.context.pc l.context.exit_unknowns.now
      (block_of l.block) l.fn.progress (block_of (drop l.statement-index l.block)) l.reached l.onward l.progress;
  ready : AreStatementsReady l.walk.table.now.core.now (entries_of l.walk.map.now) l.walk.procedure l.context.exit_unknowns.now
      (block_of (drop l.statement-index l.block)) l.progress;
}

abbrev pub invariant-walk_handlers-loop-i : goal.invariant-walk_handlers-loop-i
invariant-walk_handlers-loop-i l = record {
  handling : (number : ℕ → ℕ) → l.numbers ≡ map (λ (handler : Handler). number handler.exception) l.handlers →
      Handling l.walk.table.now.core.now l.walk.table.now.core.now.labels (entries_of l.walk.map.now) l.walk.procedure number l.exit_unknowns
      (handlers_of l.handlers) l.fn.progress (handlers_of (drop l.i l.handlers)) l.progress;
  ready : AreHandlersReady l.walk.table.now.core.now (entries_of l.walk.map.now) l.walk.procedure l.exit_unknowns
      (handlers_of (drop l.i l.handlers)) l.progress;
}
