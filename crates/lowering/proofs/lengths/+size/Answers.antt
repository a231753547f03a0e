use Rattle.std.proofs.Common.{arith, ◌≡◌, ◌∙◌, ap}
use Rattle.resolved.specs.CoreOf.{program_of}
use Rattle.resolved.specs.TreeOf.{block_of, handlers_of}
use Rattle.resolved.specs.WellFormed.{block_nodes, handlers_nodes}
use Rattle.lowering.specs.Code.{block_size, handlers_size, jump_size, jumps_over, jumps_after}
use Rattle.lowering.proofs.Forms.{size_if, size_while, size_try, size_nested, nodes_if, nodes_try}
use Rattle.lowering.proofs.lengths.+size.Goals as goal

pub statement_size-block_size-yes_size-requires : goal.statement_size-block_size-yes_size-requires
statement_size-block_size-yes_size-requires t c =
    let program = program_of c.args.core.now in
    let size = size_if program c.args.statement.now _ _ c.in-If.then_block c.in-If.else_block c.in-If.is in
    let nodes = nodes_if c.args.statement.now _ _ c.in-If.then_block c.in-If.else_block c.in-If.is in
    let same = ap (λ l. block_size program (block_of l)) c.deref-in-If-3.ensures.value in
    let same_nodes = ap (λ l. block_nodes (block_of l)) c.deref-in-If-3.ensures.value in
    (omega (arith, nodes, same_nodes), omega (arith, size, same, c.requires))

pub statement_size-block_size-no_size-requires : goal.statement_size-block_size-no_size-requires
statement_size-block_size-no_size-requires t c =
    let program = program_of c.args.core.now in
    let size = size_if program c.args.statement.now _ _ c.in-If.then_block c.in-If.else_block c.in-If.is in
    let nodes = nodes_if c.args.statement.now _ _ c.in-If.then_block c.in-If.else_block c.in-If.is in
    let same = ap (λ l. block_size program (block_of l)) c.deref-in-If-4.ensures.value in
    let same_nodes = ap (λ l. block_nodes (block_of l)) c.deref-in-If-4.ensures.value in
    (omega (arith, nodes, same_nodes), omega (arith, size, same, c.requires))

pub statement_size-block_size-tried_size-requires : goal.statement_size-block_size-tried_size-requires
statement_size-block_size-tried_size-requires t c =
    let program = program_of c.args.core.now in
    let size = size_try program c.args.statement.now _ c.in-Try.block c.in-Try.handlers c.in-Try.is in
    let nodes = nodes_try c.args.statement.now _ c.in-Try.block c.in-Try.handlers c.in-Try.is in
    let same = ap (λ l. block_size program (block_of l)) c.deref-in-Try-3.ensures.value in
    let same_nodes = ap (λ l. block_nodes (block_of l)) c.deref-in-Try-3.ensures.value in
    (omega (arith, nodes, same_nodes), omega (arith, size, same, c.requires))

pub statement_size-handlers_size-caught_size-requires : goal.statement_size-handlers_size-caught_size-requires
statement_size-handlers_size-caught_size-requires t c =
    let program = program_of c.args.core.now in
    let size = size_try program c.args.statement.now _ c.in-Try.block c.in-Try.handlers c.in-Try.is in
    let nodes = nodes_try c.args.statement.now _ c.in-Try.block c.in-Try.handlers c.in-Try.is in
    let same = ap (λ l. handlers_size program (handlers_of l)) c.deref-in-Try-4.ensures.value in
    let same_nodes = ap (λ l. handlers_nodes (handlers_of l)) c.deref-in-Try-4.ensures.value in
    (omega (arith, nodes, same_nodes), omega (arith, size, same, c.requires))

pub statement_size-returns-in-If : goal.statement_size-returns-in-If
statement_size-returns-in-If t c =
    let program = program_of c.args.core.now in
    let then_block = c.in-If.then_block in
    let else_block = c.in-If.else_block in
    let size = size_if program c.args.statement.now _ _ then_block else_block c.in-If.is in
    let jump : c.jump_size-jump.result ≡ jump_size (jumps_over (block_of then_block.items) (block_of else_block.items)) =
    c.jump_size-jump.ensures ∙ ap jump_size (c.jumps_over.ensures
    ∙ (ap (λ l. jumps_over (block_of l) (block_of c.deref-in-If-2.result.now)) c.deref-in-If.ensures.value
    ∙ ap (λ l. jumps_over (block_of then_block.items) (block_of l)) c.deref-in-If-2.ensures.value)) in
    let yes_size : c.block_size-yes_size.result ≡ block_size program (block_of then_block.items) =
    c.block_size-yes_size.ensures ∙ ap (λ l. block_size program (block_of l)) c.deref-in-If-3.ensures.value in
    let no_size : c.block_size-no_size.result ≡ block_size program (block_of else_block.items) =
    c.block_size-no_size.ensures ∙ ap (λ l. block_size program (block_of l)) c.deref-in-If-4.ensures.value in
    omega (arith, size, jump, yes_size, no_size, c.branch_size-test.ensures)

pub statement_size-returns-in-Try : goal.statement_size-returns-in-Try
statement_size-returns-in-Try t c =
    let program = program_of c.args.core.now in
    let block = c.in-Try.block in
    let handlers = c.in-Try.handlers in
    let size = size_try program c.args.statement.now _ block handlers c.in-Try.is in
    let jump : c.jump_size-jump-in-Try.result ≡ jump_size (jumps_after (block_of block.items) (handlers_of handlers.items)) =
    c.jump_size-jump-in-Try.ensures ∙ ap jump_size (c.jumps_after.ensures
    ∙ (ap (λ l. jumps_after (block_of l) (handlers_of c.deref-in-Try-2.result.now)) c.deref-in-Try.ensures.value
    ∙ ap (λ l. jumps_after (block_of block.items) (handlers_of l)) c.deref-in-Try-2.ensures.value)) in
    let tried : c.block_size-tried_size.result ≡ block_size program (block_of block.items) =
    c.block_size-tried_size.ensures ∙ ap (λ l. block_size program (block_of l)) c.deref-in-Try-3.ensures.value in
    let caught : c.handlers_size-caught_size.result ≡ handlers_size program (handlers_of handlers.items) =
    c.handlers_size-caught_size.ensures ∙ ap (λ l. handlers_size program (handlers_of l)) c.deref-in-Try-4.ensures.value in
    omega (arith, size, jump, tried, caught)

pub statement_size-overflow_add-result-in-If : goal.statement_size-overflow_add-result-in-If
statement_size-overflow_add-result-in-If t c =
    let program = program_of c.args.core.now in
    let size = size_if program c.args.statement.now _ _ c.in-If.then_block c.in-If.else_block c.in-If.is in
    let jump : c.jump_size-jump.result ≡ jump_size (jumps_over (block_of c.in-If.then_block.items) (block_of c.in-If.else_block.items)) =
    cc (c.jump_size-jump.ensures, c.jumps_over.ensures, c.deref-in-If.ensures.value, c.deref-in-If-2.ensures.value) in
    let no : c.block_size-no_size.result ≡ block_size program (block_of c.in-If.else_block.items) =
    cc (c.block_size-no_size.ensures, c.deref-in-If-4.ensures.value) in
    omega (arith, size, jump, no, c.requires)

pub statement_size-overflow_add-result-in-If-2 : goal.statement_size-overflow_add-result-in-If-2
statement_size-overflow_add-result-in-If-2 t c =
    let program = program_of c.args.core.now in
    let size = size_if program c.args.statement.now _ _ c.in-If.then_block c.in-If.else_block c.in-If.is in
    let jump : c.jump_size-jump.result ≡ jump_size (jumps_over (block_of c.in-If.then_block.items) (block_of c.in-If.else_block.items)) =
    cc (c.jump_size-jump.ensures, c.jumps_over.ensures, c.deref-in-If.ensures.value, c.deref-in-If-2.ensures.value) in
    let no : c.block_size-no_size.result ≡ block_size program (block_of c.in-If.else_block.items) =
    cc (c.block_size-no_size.ensures, c.deref-in-If-4.ensures.value) in
    let yes : c.block_size-yes_size.result ≡ block_size program (block_of c.in-If.then_block.items) =
    cc (c.block_size-yes_size.ensures, c.deref-in-If-3.ensures.value) in
    omega (arith, size, jump, no, yes, c.requires)

pub statement_size-overflow_add-result-in-Try : goal.statement_size-overflow_add-result-in-Try
statement_size-overflow_add-result-in-Try t c =
    let program = program_of c.args.core.now in
    let size = size_try program c.args.statement.now _ c.in-Try.block c.in-Try.handlers c.in-Try.is in
    let jump : c.jump_size-jump-in-Try.result ≡ jump_size (jumps_after (block_of c.in-Try.block.items) (handlers_of c.in-Try.handlers.items)) =
    cc (c.jump_size-jump-in-Try.ensures, c.jumps_after.ensures, c.deref-in-Try.ensures.value, c.deref-in-Try-2.ensures.value) in
    let caught : c.handlers_size-caught_size.result ≡ handlers_size program (handlers_of c.in-Try.handlers.items) =
    cc (c.handlers_size-caught_size.ensures, c.deref-in-Try-4.ensures.value) in
    omega (arith, size, jump, caught, c.requires)

pub statement_size-overflow_add-result-in-Try-2 : goal.statement_size-overflow_add-result-in-Try-2
statement_size-overflow_add-result-in-Try-2 t c =
    let program = program_of c.args.core.now in
    let size = size_try program c.args.statement.now _ c.in-Try.block c.in-Try.handlers c.in-Try.is in
    let jump : c.jump_size-jump-in-Try.result ≡ jump_size (jumps_after (block_of c.in-Try.block.items) (handlers_of c.in-Try.handlers.items)) =
    cc (c.jump_size-jump-in-Try.ensures, c.jumps_after.ensures, c.deref-in-Try.ensures.value, c.deref-in-Try-2.ensures.value) in
    let caught : c.handlers_size-caught_size.result ≡ handlers_size program (handlers_of c.in-Try.handlers.items) =
    cc (c.handlers_size-caught_size.ensures, c.deref-in-Try-4.ensures.value) in
    let tried : c.block_size-tried_size.result ≡ block_size program (block_of c.in-Try.block.items) =
    cc (c.block_size-tried_size.ensures, c.deref-in-Try-3.ensures.value) in
    omega (arith, size, jump, caught, tried, c.requires)

pub statement_size-returns-in-While : goal.statement_size-returns-in-While
statement_size-returns-in-While t c =
    let program = program_of c.args.core.now in
    let size = size_while program c.args.statement.now _ _ _ c.in-While.body c.in-While.is in
    let body : c.block_size-body_size.result ≡ block_size program (block_of c.in-While.body.items) =
    cc (c.block_size-body_size.ensures, c.deref-in-While.ensures.value) in
    cc (size, body, c.branch_size-test-in-While.ensures)

pub statement_size-returns-in-Nested : goal.statement_size-returns-in-Nested
statement_size-returns-in-Nested t c =
    let program = program_of c.args.core.now in
    cc (size_nested program c.args.statement.now _ c.in-Nested.block c.in-Nested.is, c.block_size.ensures, c.deref-in-Nested.ensures.value)
