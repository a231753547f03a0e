use Rattle.std.proofs.Common.{◌≡◌, ◌+◌, ◌*◌, ◌≤◌, drop}
use Rattle.resolved.specs.TreeOf.{statement_of, block_of, handlers_of}
use Rattle.resolved.specs.BitUse.{block_uses_bits, handlers_use_bits}
use Rattle.resolved.specs.WellFormed.{statement_nodes, block_nodes, handlers_nodes}
use Rattle.lowering.proofs.versions.+bits.Given as goal

abbrev pub decreases-statement_uses_bits : goal.decreases-statement_uses_bits
decreases-statement_uses_bits l = 2 * statement_nodes (statement_of l.statement.now)

abbrev pub decreases-block_uses_bits : goal.decreases-block_uses_bits
decreases-block_uses_bits l = 2 * block_nodes (block_of l.block.now) + 1

abbrev pub decreases-handlers_use_bits : goal.decreases-handlers_use_bits
decreases-handlers_use_bits l = 2 * handlers_nodes (handlers_of l.handlers.now) + 1

abbrev pub invariant-block_uses_bits-loop-statement : goal.invariant-block_uses_bits-loop-statement
invariant-block_uses_bits-loop-statement l = record {
  bits : block_uses_bits (block_of (drop l.statement-index l.block)) ≡ block_uses_bits (block_of l.block);
  nodes : block_nodes (block_of (drop l.statement-index l.block)) ≤ block_nodes (block_of l.block);
}

abbrev pub invariant-handlers_use_bits-loop-handler : goal.invariant-handlers_use_bits-loop-handler
invariant-handlers_use_bits-loop-handler l = record {
  bits : handlers_use_bits (handlers_of (drop l.handler-index l.handlers)) ≡ handlers_use_bits (handlers_of l.handlers);
  nodes : handlers_nodes (handlers_of (drop l.handler-index l.handlers)) ≤ handlers_nodes (handlers_of l.handlers);
}
