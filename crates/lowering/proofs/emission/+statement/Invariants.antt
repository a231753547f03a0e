use Rattle.std.proofs.Common.{◌≡◌, ◌+◌, ◌*◌, ◌≤◌, drop, length}
use Rattle.resolved.specs.CoreOf.{program_of}
use Rattle.resolved.specs.TreeOf.{statement_of, block_of, handlers_of}
use Rattle.resolved.specs.WellFormed.{statement_nodes, block_nodes, handlers_nodes}
use Rattle.lowering.specs.Code.{Loop, block_size, block_code, block_table, handlers_size, handlers_code, handlers_table}
use Rattle.lowering.proofs.Adding.{AreLeft}
use Rattle.lowering.proofs.emission.+statement.Given as goal

abbrev pub decreases-push_statement : goal.decreases-push_statement
decreases-push_statement l = 4 * statement_nodes (statement_of l.statement.now)

abbrev pub decreases-push_block : goal.decreases-push_block
decreases-push_block l = 4 * block_nodes (block_of l.block.now) + 1

abbrev pub decreases-push_if : goal.decreases-push_if
decreases-push_if l = 4 * (block_nodes (block_of l.branches.now.then_block.now) + block_nodes (block_of l.branches.now.else_block.now)) + 2

abbrev pub decreases-push_while : goal.decreases-push_while
decreases-push_while l = 4 * block_nodes (block_of l.body.now) + 2

abbrev pub decreases-push_try : goal.decreases-push_try
decreases-push_try l = 4 * (block_nodes (block_of l.block.now) + handlers_nodes (handlers_of l.handlers.now)) + 2

abbrev pub decreases-push_handlers : goal.decreases-push_handlers
decreases-push_handlers l = 4 * handlers_nodes (handlers_of l.handlers.now) + 1

-- what is added so far and what is left to be added
abbrev pub invariant-push_block-loop-statement : goal.invariant-push_block-loop-statement
invariant-push_block-loop-statement l =
    let program = program_of l.core in
    let loop : Loop = record { beyond = l.around.beyond; test = l.around.test } in
    let all = block_of l.block in
    let left = block_of (drop l.statement-index l.block) in
    record {
      added : AreLeft (λ position. block_code program loop position all) (λ position. block_table program position all) (λ position. block_code program loop position left) (λ position. block_table program position left)
          l.fn.code.items l.code.items l.fn.table.items l.table.items;
      size : length l.code.items + block_size program left ≡ length l.fn.code.items + block_size program all;
      nodes : block_nodes left ≤ block_nodes all;
    }

abbrev pub invariant-push_handlers-loop-handler : goal.invariant-push_handlers-loop-handler
invariant-push_handlers-loop-handler l =
    let program = program_of l.core in
    let loop : Loop = record { beyond = l.around.beyond; test = l.around.test } in
    let all = handlers_of l.handlers in
    let left = handlers_of (drop l.handler-index l.handlers) in
    record {
      added : AreLeft (λ position. handlers_code program loop l.tried.beyond position all) (λ position. handlers_table program l.tried.start l.tried.end position all)
          (λ position. handlers_code program loop l.tried.beyond position left) (λ position. handlers_table program l.tried.start l.tried.end position left)
          l.fn.code.items l.code.items l.fn.table.items l.table.items;
      size : length l.code.items + handlers_size program left ≡ length l.fn.code.items + handlers_size program all;
      nodes : handlers_nodes left ≤ handlers_nodes all;
      position : l.next ≡ l.handler-index;
    }
