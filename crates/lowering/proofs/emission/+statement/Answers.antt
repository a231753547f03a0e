use Rattle.std.proofs.Common.{arith, refl, ◌≡◌, ◌∙◌, ap, sym, length, ◌+◌, ◌<◌, drop, true, false}
use Rattle.std.proofs.lemmas.Result.{on_ok_weaker}
use Rattle.std.proofs.lemmas.List.{take_rest}
use Rattle.resolved.specs.CoreOf.{program_of}
use Rattle.resolved.specs.TreeOf.{expression_of, statement_of, block_of, handlers_of}
use Rattle.resolved.specs.WellFormed.{block_nodes, handlers_nodes}
use Rattle.lowering.specs.Expressions.{branch_size}
use Rattle.lowering.specs.Code.{Loop, block_size, handlers_size, jump_size, jumps_over, jumps_after}
use Rattle.lowering.proofs.Appending.{branch_grown, longer}
use Rattle.lowering.proofs.Adding.{statement_grown, block_grown, jump_grown}
use Rattle.lowering.proofs.Compounds.{if-placed, while-placed, try-placed, nested-placed, if-added, while-added, try-added, block-left, handlers-left}
use Rattle.lowering.proofs.emission.+statement.Goals as goal
use Rattle.resolved.proofs.Views.{next-statement, next-handler, tree-if, tree-while, tree-try, tree-nested}

pub push_statement-returns-in-If : goal.push_statement-returns-in-If
push_statement-returns-in-If t c =
    on_ok_weaker c.push_if.result
    (λ made. if-placed (program_of c.args.core.now) (record { beyond = c.args.around.beyond; test = c.args.around.test }) (statement_of c.args.statement.now) _ _ _ _ _ _ _ _
    (tree-if c.args.statement.now _ _ c.in-If.then_block c.in-If.else_block c.deref-in-If.result.now c.deref-in-If-2.result.now c.in-If.is
    c.deref-in-If.ensures.value c.deref-in-If-2.ensures.value) made)
    c.push_if.ensures

pub push_statement-returns-in-While : goal.push_statement-returns-in-While
push_statement-returns-in-While t c =
    let loop : Loop = record { beyond = c.args.around.beyond; test = c.args.around.test } in
    on_ok_weaker c.push_while.result
    (λ made. while-placed (program_of c.args.core.now) loop (statement_of c.args.statement.now) _ _ _ _ _ _ _ _
    (tree-while c.args.statement.now _ _ _ c.in-While.body c.deref-in-While.result.now c.in-While.is c.deref-in-While.ensures.value) (made loop))
    c.push_while.ensures

pub push_statement-returns-in-Try : goal.push_statement-returns-in-Try
push_statement-returns-in-Try t c =
    on_ok_weaker c.push_try.result
    (λ made. try-placed (program_of c.args.core.now) (record { beyond = c.args.around.beyond; test = c.args.around.test }) (statement_of c.args.statement.now) _ _ _ _ _ _ _
    (tree-try c.args.statement.now _ c.in-Try.block c.in-Try.handlers c.deref-in-Try.result.now c.deref-in-Try-2.result.now c.in-Try.is
    c.deref-in-Try.ensures.value c.deref-in-Try-2.ensures.value) made)
    c.push_try.ensures

pub push_statement-returns-in-Nested : goal.push_statement-returns-in-Nested
push_statement-returns-in-Nested t c =
    on_ok_weaker c.push_block.result
    (λ made. nested-placed (program_of c.args.core.now) (record { beyond = c.args.around.beyond; test = c.args.around.test }) (statement_of c.args.statement.now) _ _ _ _ _ _
    (tree-nested c.args.statement.now _ c.in-Nested.block c.deref-in-Nested.result.now c.in-Nested.is c.deref-in-Nested.ensures.value) made)
    c.push_block.ensures

pub push_block-loop-statement-preserved : goal.push_block-loop-statement-preserved
push_block-loop-statement-preserved t c =
    let program = program_of c.args.core.now in
    let loop : Loop = record { beyond = c.args.around.beyond; test = c.args.around.test } in
    let statement = statement_of c.statement-item.result in
    let rest = block_of (drop (c.loop-statement.statement-index + 1) c.args.block.now) in
    let next = next-statement c.args.block.now c.loop-statement.statement-index c.statement-item.result c.loop-statement-test.true c.statement-item.is in
    let grown = statement_grown program loop statement c.loop-statement.code.items c.push_statement.new.code.items c.loop-statement.table.items c.push_statement.new.table.items
    c.in_ok-push_statement.ensures in
    record {
      added = block-left program loop (block_of c.args.block.now) _ rest statement _ c.loop-statement.code.items c.push_statement.new.code.items
          _ c.loop-statement.table.items c.push_statement.new.table.items next c.loop-statement.invariant.added c.in_ok-push_statement.ensures;
      size = omega (arith, grown, ap (block_size program) next, c.loop-statement.invariant.size);
      nodes = omega (arith, ap block_nodes next, c.loop-statement.invariant.nodes);
    }

pub push_handlers-loop-handler-preserved : goal.push_handlers-loop-handler-preserved
push_handlers-loop-handler-preserved t c =
    let program = program_of c.args.core.now in
    let loop : Loop = record { beyond = c.args.around.beyond; test = c.args.around.test } in
    let body = c.deref-in-loop-handler.result.now in
    let left = drop (c.loop-handler.handler-index + 1) c.args.handlers.now in
    let next = next-handler c.args.handlers.now c.loop-handler.handler-index c.handler-item.result body c.loop-handler-test.true c.handler-item.is c.deref-in-loop-handler.ensures.value in
    let jumps : c.jumps_after.result ≡ jumps_after (block_of body) (handlers_of left) =
    c.jumps_after.ensures
    ∙ (ap (λ l. jumps_after (block_of c.deref-in-loop-handler-2.result.now) (handlers_of l)) (take_rest c.args.handlers.now (c.loop-handler.next + 1))
    ∙ (ap (λ l. jumps_after (block_of l) (handlers_of (drop (c.loop-handler.next + 1) c.args.handlers.now))) (c.deref-in-loop-handler-2.ensures.value ∙ sym c.deref-in-loop-handler.ensures.value)
    ∙ ap (λ n. jumps_after (block_of body) (handlers_of (drop (n + 1) c.args.handlers.now))) c.loop-handler.invariant.position)) in
    let target : c.next_position.result ≡ length c.loop-handler.code.items = c.next_position.ensures ∙ ap length c.deref.ensures.value in
    let grown = block_grown program loop (block_of body) c.loop-handler.code.items c.push_block.new.code.items c.push_entry.new.table.items c.push_block.new.table.items
    c.in_ok-push_block.ensures in
    let over = jump_grown c.jumps_after.result c.args.tried.beyond c.push_block.new.code.items c.push_jump.new.code.items c.in_ok-push_jump.ensures in
    record {
      added = handlers-left program loop c.args.tried.beyond c.args.tried.start c.args.tried.end (handlers_of c.args.handlers.now) _ (handlers_of left)
          _ c.handler-item.result.exception c.next_position.result (block_of body) c.jumps_after.result
          _ c.loop-handler.code.items c.push_block.new.code.items c.push_jump.new.code.items
          _ c.loop-handler.table.items c.push_entry.new.table.items c.push_block.new.table.items
          next target jumps c.loop-handler.invariant.added c.in_ok-push_entry.ensures c.in_ok-push_block.ensures c.in_ok-push_jump.ensures;
      size = omega (arith, grown, over, ap jump_size jumps, ap (handlers_size program) next, c.loop-handler.invariant.size);
      nodes = omega (arith, ap handlers_nodes next, c.loop-handler.invariant.nodes);
      position = ap (λ n. n + 1) c.loop-handler.invariant.position;
    }

pub push_if-push_block-requires-2 : goal.push_if-push_block-requires-2
push_if-push_block-requires-2 t c =
    let program = program_of c.args.core.now in
    let loop : Loop = record { beyond = c.args.around.beyond; test = c.args.around.test } in
    let then_block = block_of c.args.branches.now.then_block.now in
    let else_block = block_of c.args.branches.now.else_block.now in
    let room : length c.args.code.now.items + (branch_size false (expression_of c.args.branches.now.condition.now)
    + (block_size program then_block + (jump_size (jumps_over then_block else_block) + block_size program else_block))) < 4294967296 = c.requires in
    let tested = branch_grown c.args.code.now.items c.push_branch.new.code.items false _ (expression_of c.args.branches.now.condition.now) c.in_ok-push_branch.ensures in
    let first = block_grown program loop then_block c.push_branch.new.code.items c.push_block.new.code.items c.args.table.now.items c.push_block.new.table.items c.in_ok-push_block.ensures in
    let over = jump_grown c.jumps_over-jumps.result _ c.push_block.new.code.items c.push_jump.new.code.items c.in_ok-push_jump.ensures in
    (omega arith, omega (arith, room, tested, first, over, ap jump_size c.jumps_over-jumps.ensures))

pub push_if-returns : goal.push_if-returns
push_if-returns t c =
    let program = program_of c.args.core.now in
    let loop : Loop = record { beyond = c.args.around.beyond; test = c.args.around.test } in
    let e = expression_of c.args.branches.now.condition.now in
    let then_block = block_of c.args.branches.now.then_block.now in
    let else_block = block_of c.args.branches.now.else_block.now in
    let second : c.next_position.result + c.branch_size.result + c.block_size.result + c.jump_size.result
    ≡ length c.args.code.now.items + branch_size false e + block_size program then_block + jump_size (jumps_over then_block else_block) =
    omega (arith, c.next_position.ensures, ap length c.deref.ensures.value, c.branch_size.ensures, c.block_size.ensures, c.jump_size.ensures, ap jump_size c.jumps_over-jumps.ensures) in
    let end = ap (λ n. c.next_position.result + c.branch_size.result + c.block_size.result + c.jump_size.result + n) c.block_size-2.ensures in
    on_ok_weaker c.push_block-2.result
    (λ made. if-added program loop e then_block else_block c.jumps_over-jumps.result _ _
    c.args.code.now.items c.push_branch.new.code.items c.push_block.new.code.items c.push_jump.new.code.items c.push_block-2.new.code.items
    c.args.table.now.items c.push_block.new.table.items c.push_block-2.new.table.items
    c.jumps_over-jumps.ensures second end c.in_ok-push_branch.ensures c.in_ok-push_block.ensures c.in_ok-push_jump.ensures made)
    c.push_block-2.ensures

pub push_while-push_branch-requires : goal.push_while-push_branch-requires
push_while-push_branch-requires t c =
    let program = program_of c.args.core.now in
    let body = block_of c.args.body.now in
    let room : length c.args.code.now.items + (1 + (block_size program body + branch_size true (expression_of c.args.condition.now))) < 4294967296 = c.requires in
    let jumped = longer c.args.code.now.items c.push.new.code.items _ 1 c.in_ok-push.ensures refl in
    let first = block_grown program _ body c.push.new.code.items c.push_block.new.code.items c.args.table.now.items c.push_block.new.table.items c.in_ok-push_block.ensures in
    omega (arith, room, jumped, first)

pub push_while-returns : goal.push_while-returns
push_while-returns t c =
    let program = program_of c.args.core.now in
    let e = expression_of c.args.condition.now in
    let body = block_of c.args.body.now in
    let start : c.next_position-start.result + 1 ≡ length c.args.code.now.items + 1 = omega (arith, c.next_position-start.ensures, ap length c.deref.ensures.value) in
    let test : c.next_position-start.result + 1 + c.block_size.result ≡ length c.args.code.now.items + 1 + block_size program body =
    omega (arith, start, c.block_size.ensures) in
    let beyond = ap (λ n. c.next_position-start.result + 1 + c.block_size.result + n) c.branch_size.ensures in
    on_ok_weaker c.push_branch.result
    (λ made loop. while-added program loop e body _ _ _
    c.args.code.now.items c.push.new.code.items c.push_block.new.code.items c.push_branch.new.code.items
    c.args.table.now.items c.push_block.new.table.items
    start test beyond c.in_ok-push.ensures c.in_ok-push_block.ensures made)
    c.push_branch.ensures

pub push_try-next_position-end-requires : goal.push_try-next_position-end-requires
push_try-next_position-end-requires t c =
    let program = program_of c.args.core.now in
    let block = block_of c.args.block.now in
    let handlers = handlers_of c.args.handlers.now in
    let room : length c.args.code.now.items + (block_size program block + (jump_size (jumps_after block handlers) + handlers_size program handlers)) < 4294967296 = c.requires in
    let first = block_grown program _ block c.args.code.now.items c.push_block.new.code.items c.args.table.now.items c.push_block.new.table.items c.in_ok-push_block.ensures in
    omega (arith, room, first, ap length c.deref-2.ensures.value)

pub push_try-overflow_add-beyond : goal.push_try-overflow_add-beyond
push_try-overflow_add-beyond t c =
    let program = program_of c.args.core.now in
    let block = block_of c.args.block.now in
    let handlers = handlers_of c.args.handlers.now in
    let room : length c.args.code.now.items + (block_size program block + (jump_size (jumps_after block handlers) + handlers_size program handlers)) < 4294967296 = c.requires in
    let first = block_grown program _ block c.args.code.now.items c.push_block.new.code.items c.args.table.now.items c.push_block.new.table.items c.in_ok-push_block.ensures in
    omega (arith, room, first, ap length c.deref-2.ensures.value, c.next_position-end.ensures, c.jump_size.ensures, ap jump_size c.jumps_after-jumps.ensures)

pub push_try-overflow_add-beyond-2 : goal.push_try-overflow_add-beyond-2
push_try-overflow_add-beyond-2 t c =
    let program = program_of c.args.core.now in
    let block = block_of c.args.block.now in
    let handlers = handlers_of c.args.handlers.now in
    let room : length c.args.code.now.items + (block_size program block + (jump_size (jumps_after block handlers) + handlers_size program handlers)) < 4294967296 = c.requires in
    let first = block_grown program _ block c.args.code.now.items c.push_block.new.code.items c.args.table.now.items c.push_block.new.table.items c.in_ok-push_block.ensures in
    omega (arith, room, first, ap length c.deref-2.ensures.value, c.next_position-end.ensures, c.jump_size.ensures, ap jump_size c.jumps_after-jumps.ensures, c.handlers_size.ensures)

pub push_try-push_handlers-requires : goal.push_try-push_handlers-requires
push_try-push_handlers-requires t c =
    let program = program_of c.args.core.now in
    let block = block_of c.args.block.now in
    let handlers = handlers_of c.args.handlers.now in
    let room : length c.args.code.now.items + (block_size program block + (jump_size (jumps_after block handlers) + handlers_size program handlers)) < 4294967296 = c.requires in
    let first = block_grown program _ block c.args.code.now.items c.push_block.new.code.items c.args.table.now.items c.push_block.new.table.items c.in_ok-push_block.ensures in
    let over = jump_grown c.jumps_after-jumps.result _ c.push_block.new.code.items c.push_jump.new.code.items c.in_ok-push_jump.ensures in
    (omega arith, omega (arith, room, first, over, ap jump_size c.jumps_after-jumps.ensures))

pub push_try-returns : goal.push_try-returns
push_try-returns t c =
    let program = program_of c.args.core.now in
    let loop : Loop = record { beyond = c.args.around.beyond; test = c.args.around.test } in
    let block = block_of c.args.block.now in
    let handlers = handlers_of c.args.handlers.now in
    let start : c.next_position-start.result ≡ length c.args.code.now.items = c.next_position-start.ensures ∙ ap length c.deref.ensures.value in
    let end : c.next_position-end.result ≡ length c.push_block.new.code.items = c.next_position-end.ensures ∙ ap length c.deref-2.ensures.value in
    let beyond : c.next_position-end.result + c.jump_size.result + c.handlers_size.result
    ≡ c.next_position-end.result + jump_size (jumps_after block handlers) + handlers_size program handlers =
    omega (arith, c.jump_size.ensures, ap jump_size c.jumps_after-jumps.ensures, c.handlers_size.ensures) in
    on_ok_weaker c.push_handlers.result
    (λ made. try-added program loop block handlers c.jumps_after-jumps.result _ _ _
    c.args.code.now.items c.push_block.new.code.items c.push_jump.new.code.items c.push_handlers.new.code.items
    c.args.table.now.items c.push_block.new.table.items c.push_handlers.new.table.items
    c.jumps_after-jumps.ensures start end beyond c.in_ok-push_block.ensures c.in_ok-push_jump.ensures made)
    c.push_handlers.ensures
