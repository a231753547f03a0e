use Rattle.std.proofs.Common.{◌≡◌, ◌+◌, ◌*◌, ◌≤◌, drop}
use Rattle.resolved.specs.CoreOf.{program_of}
use Rattle.resolved.specs.TreeOf.{statement_of, block_of, handlers_of}
use Rattle.resolved.specs.WellFormed.{statement_nodes, block_nodes, handlers_nodes}
use Rattle.lowering.specs.Code.{block_size, handlers_size}
use Rattle.lowering.proofs.lengths.+size.Given as goal

abbrev pub decreases-statement_size : goal.decreases-statement_size
decreases-statement_size l = 2 * statement_nodes (statement_of l.statement.now)

abbrev pub decreases-block_size : goal.decreases-block_size
decreases-block_size l = 2 * block_nodes (block_of l.block.now) + 1

abbrev pub decreases-handlers_size : goal.decreases-handlers_size
decreases-handlers_size l = 2 * handlers_nodes (handlers_of l.handlers.now) + 1

abbrev pub invariant-block_size-loop-statement : goal.invariant-block_size-loop-statement
invariant-block_size-loop-statement l = record {
  size : l.size + block_size (program_of l.core) (block_of (drop l.statement-index l.block)) ≡ block_size (program_of l.core) (block_of l.block);
  nodes : block_nodes (block_of (drop l.statement-index l.block)) ≤ block_nodes (block_of l.block);
}

abbrev pub invariant-handlers_size-loop-handler : goal.invariant-handlers_size-loop-handler
invariant-handlers_size-loop-handler l = record {
  size : l.size + handlers_size (program_of l.core) (handlers_of (drop l.handler-index l.handlers)) ≡ handlers_size (program_of l.core) (handlers_of l.handlers);
  nodes : handlers_nodes (handlers_of (drop l.handler-index l.handlers)) ≤ handlers_nodes (handlers_of l.handlers);
  position : l.next ≡ l.handler-index;
}
