use Rattle.std.proofs.Common.{◌≡◌, ◌+◌, ◌*◌, drop}
use Rattle.resolved.specs.CoreOf.{program_of}
use Rattle.resolved.specs.TreeOf.{block_of, handlers_of, statement_of}
use Rattle.resolved.specs.WellFormed.{block_nodes, handlers_nodes, statement_nodes}
use Rattle.path_map.specs.Sets.{members}
use Rattle.path_map.proofs.Walking.{Along, Handling}
use Rattle.path_map.proofs.walk.+walk.Given as goal

-- each call is of something smaller, or of the same by a smaller part of the walk
abbrev pub decreases-walk_block : goal.decreases-walk_block
decreases-walk_block l = 3 * block_nodes (block_of l.block.now) + 2

abbrev pub decreases-walk_form : goal.decreases-walk_form
decreases-walk_form l = 3 * statement_nodes (statement_of l.statement.now) + 1

abbrev pub decreases-walk_handlers : goal.decreases-walk_handlers
decreases-walk_handlers l = 3 * handlers_nodes (handlers_of l.handlers.now) + 2

abbrev pub invariant-walk_handlers-loop-handler : goal.invariant-walk_handlers-loop-handler
invariant-walk_handlers-loop-handler l = record {
  along : Handling (program_of l.walk.core.now) l.in_loop (handlers_of l.handlers) (handlers_of (drop l.handler-index l.handlers))
      l.fn.table l.table (members l.fn.raised) (members l.raised) (members l.fn.inner) (members l.inner) l.exits;
  bound : l.raised.bound ≡ l.fn.raised.bound;
  inner_bound : l.inner.bound ≡ l.fn.inner.bound;
}

abbrev pub invariant-walk_block-loop-statement : goal.invariant-walk_block-loop-statement
invariant-walk_block-loop-statement l = record {
  along : Along (program_of l.walk.core.now) l.in_loop (block_of l.block) (block_of (drop l.statement-index l.block))
      l.initial.table l.table (members l.initial.own) (members l.own) l.exits;
  bound : l.own.bound ≡ l.walk.bound;
}
