use Rattle.types.specs.declared.scope.ItemKind.TheVariants.{Exception}
use Rattle.std.proofs.Common.{◌≡◌, ◌+◌, ◌≤◌, ◌∙◌, ap, sym, subst, map, arith, refl, None, Some, Ok, OnOk}
use Rattle.std.proofs.lemmas.Result.{err_from_is_err_and}
use Rattle.syntax.proofs.Rows.{if_is, if_else_is, while_is, try_is, nested_is}
use Rattle.syntax.specs.Nodes.{statement_nodes}
use Rattle.syntax.specs.Tree.{TryTree, block_tree, catch_tree, catches_of, expression_tree, if_tree, statement_tree, statements_of}
use Rattle.resolved.proofs.Views.{statement_of_if, statement_of_while, statement_of_try, statement_of_nested}
use Rattle.resolved.specs.Tree.{Placed, If}
use Rattle.resolved.specs.TreeOf.{expression_of, block_of, handlers_of, statement_of}
use Rattle.common.specs.Answers.{IfRefused}
use Rattle.types.specs.Finding.{IsRefusalOf}
use Rattle.types.specs.Environment.{use_as, item_of}
use Rattle.types.specs.Statements.{statement_finding, block_finding, catches_finding}
use Rattle.types.specs.Views.{Resolves, at_point, point_of, setting_of, taken}
use Rattle.types.proofs.Along.{statement_fits, statement_part, statement_wrong, statement_right, statements_done, exception_wrong, body_wrong, catch_fits, catch_part, catch_right, catches_done}
use Rattle.types.proofs.Holding.{condition_wrong, if_done, if_else_done, if_wrong, else_wrong, while_done, while_wrong, try_done, try_wrong, handlers_wrong, nested_done, nested_wrong, if_nodes}
use Rattle.types.proofs.Later.{later_through, setting_same}
use Rattle.types.proofs.body.BodyScope.+block.Goals as goal

-- ---- a statement that holds others, by the function of its form

pub resolve_statement-resolve_if-requires : goal.resolve_statement-resolve_if-requires
resolve_statement-resolve_if-requires t c =
    let nodes = ap statement_nodes (ap statement_tree c.in-If.is ∙ if_is c.in-If.at c.in-If.condition c.in-If.accepted) in
    (omega (arith, nodes), omega (arith, nodes))

pub resolve_statement-returns-in-If-clause-made : goal.resolve_statement-returns-in-If-clause-made
resolve_statement-returns-in-If-clause-made t c =
    let before = c.args.self.now in
    subst (λ one. Resolves (at_point c.resolve_if.new.self statement_of) c.resolve_if.result (statement_finding (setting_of before) (point_of before) one))
    (sym (ap statement_tree c.in-If.is ∙ if_is c.in-If.at c.in-If.condition c.in-If.accepted)) c.resolve_if.ensures.made

pub resolve_statement-returns-in-If-clause-grows : goal.resolve_statement-returns-in-If-clause-grows
resolve_statement-returns-in-If-clause-grows t c =
    subst (λ one. OnOk c.resolve_if.result (taken c.resolve_if.new.self ≤ taken c.args.self.now + statement_nodes one))
    (sym (ap statement_tree c.in-If.is ∙ if_is c.in-If.at c.in-If.condition c.in-If.accepted)) c.resolve_if.ensures.grows

pub resolve_statement-resolve_if_else-requires : goal.resolve_statement-resolve_if_else-requires
resolve_statement-resolve_if_else-requires t c =
    let nodes = ap statement_nodes (ap statement_tree c.in-IfElse.is ∙ if_else_is c.in-IfElse.at c.in-IfElse.condition c.in-IfElse.accepted c.in-IfElse.otherwise
    ∙ ap (λ block. if_tree c.in-IfElse.at (expression_tree c.in-IfElse.condition) (block_tree c.in-IfElse.accepted) (Some (block_tree block))) (sym c.deref.ensures)) in
    (omega (arith, nodes), omega (arith, nodes))

pub resolve_statement-returns-in-IfElse-clause-made : goal.resolve_statement-returns-in-IfElse-clause-made
resolve_statement-returns-in-IfElse-clause-made t c =
    let before = c.args.self.now in
    subst (λ one. Resolves (at_point c.resolve_if_else.new.self statement_of) c.resolve_if_else.result (statement_finding (setting_of before) (point_of before) one))
    (sym (ap statement_tree c.in-IfElse.is ∙ if_else_is c.in-IfElse.at c.in-IfElse.condition c.in-IfElse.accepted c.in-IfElse.otherwise
    ∙ ap (λ block. if_tree c.in-IfElse.at (expression_tree c.in-IfElse.condition) (block_tree c.in-IfElse.accepted) (Some (block_tree block))) (sym c.deref.ensures))) c.resolve_if_else.ensures.made

pub resolve_statement-returns-in-IfElse-clause-grows : goal.resolve_statement-returns-in-IfElse-clause-grows
resolve_statement-returns-in-IfElse-clause-grows t c =
    subst (λ one. OnOk c.resolve_if_else.result (taken c.resolve_if_else.new.self ≤ taken c.args.self.now + statement_nodes one))
    (sym (ap statement_tree c.in-IfElse.is ∙ if_else_is c.in-IfElse.at c.in-IfElse.condition c.in-IfElse.accepted c.in-IfElse.otherwise
    ∙ ap (λ block. if_tree c.in-IfElse.at (expression_tree c.in-IfElse.condition) (block_tree c.in-IfElse.accepted) (Some (block_tree block))) (sym c.deref.ensures))) c.resolve_if_else.ensures.grows

pub resolve_statement-resolve_while-requires : goal.resolve_statement-resolve_while-requires
resolve_statement-resolve_while-requires t c =
    let nodes = ap statement_nodes (ap statement_tree c.in-While.is ∙ while_is c.in-While.at c.in-While.condition c.in-While.body) in
    (omega (arith, nodes), omega (arith, nodes))

pub resolve_statement-returns-in-While-clause-made : goal.resolve_statement-returns-in-While-clause-made
resolve_statement-returns-in-While-clause-made t c =
    let before = c.args.self.now in
    subst (λ one. Resolves (at_point c.resolve_while.new.self statement_of) c.resolve_while.result (statement_finding (setting_of before) (point_of before) one))
    (sym (ap statement_tree c.in-While.is ∙ while_is c.in-While.at c.in-While.condition c.in-While.body)) c.resolve_while.ensures.made

pub resolve_statement-returns-in-While-clause-grows : goal.resolve_statement-returns-in-While-clause-grows
resolve_statement-returns-in-While-clause-grows t c =
    subst (λ one. OnOk c.resolve_while.result (taken c.resolve_while.new.self ≤ taken c.args.self.now + statement_nodes one))
    (sym (ap statement_tree c.in-While.is ∙ while_is c.in-While.at c.in-While.condition c.in-While.body)) c.resolve_while.ensures.grows

pub resolve_statement-resolve_try-requires : goal.resolve_statement-resolve_try-requires
resolve_statement-resolve_try-requires t c =
    let nodes = ap statement_nodes (ap statement_tree c.in-Try.is ∙ try_is c.in-Try.at c.in-Try.body c.in-Try.catches
    ∙ ap (λ list. TryTree c.in-Try.at (block_tree c.in-Try.body) (catches_of (map catch_tree list))) (sym c.deref-in-Try.ensures.value)) in
    (omega (arith, nodes), omega (arith, nodes))

pub resolve_statement-returns-in-Try-clause-made : goal.resolve_statement-returns-in-Try-clause-made
resolve_statement-returns-in-Try-clause-made t c =
    let before = c.args.self.now in
    subst (λ one. Resolves (at_point c.resolve_try.new.self statement_of) c.resolve_try.result (statement_finding (setting_of before) (point_of before) one))
    (sym (ap statement_tree c.in-Try.is ∙ try_is c.in-Try.at c.in-Try.body c.in-Try.catches
    ∙ ap (λ list. TryTree c.in-Try.at (block_tree c.in-Try.body) (catches_of (map catch_tree list))) (sym c.deref-in-Try.ensures.value))) c.resolve_try.ensures.made

pub resolve_statement-returns-in-Try-clause-grows : goal.resolve_statement-returns-in-Try-clause-grows
resolve_statement-returns-in-Try-clause-grows t c =
    subst (λ one. OnOk c.resolve_try.result (taken c.resolve_try.new.self ≤ taken c.args.self.now + statement_nodes one))
    (sym (ap statement_tree c.in-Try.is ∙ try_is c.in-Try.at c.in-Try.body c.in-Try.catches
    ∙ ap (λ list. TryTree c.in-Try.at (block_tree c.in-Try.body) (catches_of (map catch_tree list))) (sym c.deref-in-Try.ensures.value))) c.resolve_try.ensures.grows

pub resolve_statement-resolve_nested-requires : goal.resolve_statement-resolve_nested-requires
resolve_statement-resolve_nested-requires t c =
    let nodes = ap statement_nodes (ap statement_tree c.in-Nested.is ∙ nested_is c.in-Nested.block) in
    (omega (arith, nodes), omega (arith, nodes))

pub resolve_statement-returns-in-Nested-clause-made : goal.resolve_statement-returns-in-Nested-clause-made
resolve_statement-returns-in-Nested-clause-made t c =
    let before = c.args.self.now in
    subst (λ one. Resolves (at_point c.resolve_nested.new.self statement_of) c.resolve_nested.result (statement_finding (setting_of before) (point_of before) one))
    (sym (ap statement_tree c.in-Nested.is ∙ nested_is c.in-Nested.block)) c.resolve_nested.ensures.made

pub resolve_statement-returns-in-Nested-clause-grows : goal.resolve_statement-returns-in-Nested-clause-grows
resolve_statement-returns-in-Nested-clause-grows t c =
    subst (λ one. OnOk c.resolve_nested.result (taken c.resolve_nested.new.self ≤ taken c.args.self.now + statement_nodes one))
    (sym (ap statement_tree c.in-Nested.is ∙ nested_is c.in-Nested.block)) c.resolve_nested.ensures.grows

-- ---- conditions

pub resolve_if-returns-in_err-condition-clause-made : goal.resolve_if-returns-in_err-condition-clause-made
resolve_if-returns-in_err-condition-clause-made t c =
    let before = c.args.self.now in
    let p = err_from_is_err_and c.from_residual.result c.from_residual.ensures.1 in
    rw (p.1, p.2) (condition_wrong (setting_of before) (point_of before) c.args.at (expression_tree c.args.condition.now)
    (block_tree c.args.accepted.now) None c.in_err-condition.field-0.0 c.in_err-condition.ensures)

pub resolve_if-resolve_block-requires : goal.resolve_if-resolve_block-requires
resolve_if-resolve_block-requires t c =
    let within = if_nodes c.args.at (expression_tree c.args.condition.now) (block_tree c.args.accepted.now) None in
    (omega (arith, within), omega (arith, within))

pub resolve_if-returns-in_err-accepted-clause-made : goal.resolve_if-returns-in_err-accepted-clause-made
resolve_if-returns-in_err-accepted-clause-made t c =
    let before = c.args.self.now in
    let p = err_from_is_err_and c.from_residual-in_err-accepted.result c.from_residual-in_err-accepted.ensures.1 in
    rw (p.1, p.2) (if_wrong (setting_of before) (point_of before) c.args.at (expression_tree c.args.condition.now) (expression_of c.in_ok-condition.condition) c.in_ok-condition.ensures
    (block_tree c.args.accepted.now) None c.in_err-accepted.field-0.0 c.in_err-accepted.ensures.made)

pub resolve_if-returns-clause-made : goal.resolve_if-returns-clause-made
resolve_if-returns-clause-made t c =
    let before = c.args.self.now in
    let after = c.resolve_block.new.self in
    if_done (setting_of before) (point_of before) c.args.at (expression_tree c.args.condition.now) (expression_of c.in_ok-condition.condition) c.in_ok-condition.ensures
    (block_tree c.args.accepted.now) (point_of after) (block_of c.in_ok-accepted.accepted.items) c.in_ok-accepted.ensures.made
    ∙ ap (λ one. Ok (point_of after, one)) (ap (λ list. Placed c.args.at (If (expression_of c.in_ok-condition.condition) (block_of c.in_ok-accepted.accepted.items) (block_of list))) (sym c.new.ensures.items)
    ∙ sym (statement_of_if c.args.at c.in_ok-condition.condition c.in_ok-accepted.accepted c.new.result))

pub resolve_if-returns-clause-grows : goal.resolve_if-returns-clause-grows
resolve_if-returns-clause-grows t c = omega (arith, c.in_ok-accepted.ensures.grows)

-- ---- conditions with two blocks

pub resolve_if_else-returns-in_err-condition-clause-made : goal.resolve_if_else-returns-in_err-condition-clause-made
resolve_if_else-returns-in_err-condition-clause-made t c =
    let before = c.args.self.now in
    let p = err_from_is_err_and c.from_residual.result c.from_residual.ensures.1 in
    rw (p.1, p.2) (condition_wrong (setting_of before) (point_of before) c.args.at (expression_tree c.args.condition.now)
    (block_tree c.args.accepted.now) (Some (block_tree c.args.otherwise.now)) c.in_err-condition.field-0.0 c.in_err-condition.ensures)

pub resolve_if_else-resolve_block-requires : goal.resolve_if_else-resolve_block-requires
resolve_if_else-resolve_block-requires t c =
    let within = if_nodes c.args.at (expression_tree c.args.condition.now) (block_tree c.args.accepted.now) (Some (block_tree c.args.otherwise.now)) in
    (omega (arith, within), omega (arith, within))

pub resolve_if_else-returns-in_err-accepted-clause-made : goal.resolve_if_else-returns-in_err-accepted-clause-made
resolve_if_else-returns-in_err-accepted-clause-made t c =
    let before = c.args.self.now in
    let p = err_from_is_err_and c.from_residual-in_err-accepted.result c.from_residual-in_err-accepted.ensures.1 in
    rw (p.1, p.2) (if_wrong (setting_of before) (point_of before) c.args.at (expression_tree c.args.condition.now) (expression_of c.in_ok-condition.condition) c.in_ok-condition.ensures
    (block_tree c.args.accepted.now) (Some (block_tree c.args.otherwise.now)) c.in_err-accepted.field-0.0 c.in_err-accepted.ensures.made)

pub resolve_if_else-resolve_block-requires-2 : goal.resolve_if_else-resolve_block-requires-2
resolve_if_else-resolve_block-requires-2 t c =
    (omega (arith, c.in_ok-accepted.ensures.grows), omega (arith, c.in_ok-accepted.ensures.grows))

pub resolve_if_else-returns-in_err-otherwise-clause-made : goal.resolve_if_else-returns-in_err-otherwise-clause-made
resolve_if_else-returns-in_err-otherwise-clause-made t c =
    let before = c.args.self.now in
    let p = err_from_is_err_and c.from_residual-in_err-otherwise.result c.from_residual-in_err-otherwise.ensures.1 in
    let second = subst (λ setting. IfRefused (IsRefusalOf (block_finding setting (point_of c.resolve_block.new.self) (block_tree c.args.otherwise.now))) c.in_err-otherwise.field-0.0)
    (setting_same before c.resolve_block.new.self c.in_ok-accepted.ensures.later) c.in_err-otherwise.ensures.made in
    rw (p.1, p.2) (else_wrong (setting_of before) (point_of before) c.args.at (expression_tree c.args.condition.now) (expression_of c.in_ok-condition.condition) c.in_ok-condition.ensures
    (block_tree c.args.accepted.now) (block_tree c.args.otherwise.now) (point_of c.resolve_block.new.self) (block_of c.in_ok-accepted.accepted.items) c.in_err-otherwise.field-0.0 c.in_ok-accepted.ensures.made second)

pub resolve_if_else-returns-clause-made : goal.resolve_if_else-returns-clause-made
resolve_if_else-returns-clause-made t c =
    let before = c.args.self.now in
    let after = c.resolve_block-2.new.self in
    let second = subst (λ setting. block_finding setting (point_of c.resolve_block.new.self) (block_tree c.args.otherwise.now) ≡ Ok (point_of after, block_of c.in_ok-otherwise.otherwise.items))
    (setting_same before c.resolve_block.new.self c.in_ok-accepted.ensures.later) c.in_ok-otherwise.ensures.made in
    if_else_done (setting_of before) (point_of before) c.args.at (expression_tree c.args.condition.now) (expression_of c.in_ok-condition.condition) c.in_ok-condition.ensures
    (block_tree c.args.accepted.now) (block_tree c.args.otherwise.now) (point_of c.resolve_block.new.self) (point_of after) (block_of c.in_ok-accepted.accepted.items) (block_of c.in_ok-otherwise.otherwise.items)
    c.in_ok-accepted.ensures.made second
    ∙ ap (λ one. Ok (point_of after, one)) (sym (statement_of_if c.args.at c.in_ok-condition.condition c.in_ok-accepted.accepted c.in_ok-otherwise.otherwise))

pub resolve_if_else-returns-clause-later : goal.resolve_if_else-returns-clause-later
resolve_if_else-returns-clause-later t c =
    later_through c.args.self.now c.resolve_block.new.self c.resolve_block-2.new.self c.in_ok-accepted.ensures.later c.in_ok-otherwise.ensures.later

pub resolve_if_else-returns-clause-grows : goal.resolve_if_else-returns-clause-grows
resolve_if_else-returns-clause-grows t c =
    omega (arith, c.in_ok-accepted.ensures.grows, c.in_ok-otherwise.ensures.grows)

-- ---- loops

pub resolve_while-returns-in_err-body-clause-made : goal.resolve_while-returns-in_err-body-clause-made
resolve_while-returns-in_err-body-clause-made t c =
    let before = c.args.self.now in
    let p = err_from_is_err_and c.from_residual-in_err-body.result c.from_residual-in_err-body.ensures.1 in
    rw (p.1, p.2) (while_wrong (setting_of before) (point_of before) c.args.at (expression_tree c.args.condition.now) (expression_of c.in_ok-condition.condition) c.in_ok-condition.ensures
    (block_tree c.args.body.now) c.in_err-body.field-0.0 c.in_err-body.ensures.made)

pub resolve_while-returns-clause-made : goal.resolve_while-returns-clause-made
resolve_while-returns-clause-made t c =
    let before = c.args.self.now in
    let after = c.resolve_block.new.self in
    while_done (setting_of before) (point_of before) c.args.at (expression_tree c.args.condition.now) (expression_of c.in_ok-condition.condition) c.in_ok-condition.ensures
    (block_tree c.args.body.now) (point_of after) (block_of c.in_ok-body.body.items) c.in_ok-body.ensures.made
    ∙ ap (λ one. Ok (point_of after, one)) (sym (statement_of_while c.args.at before.loops c.in_ok-condition.condition c.in_ok-body.body))

-- ---- handlers

pub resolve_try-returns-in_err-body-clause-made : goal.resolve_try-returns-in_err-body-clause-made
resolve_try-returns-in_err-body-clause-made t c =
    let before = c.args.self.now in
    let p = err_from_is_err_and c.from_residual.result c.from_residual.ensures.1 in
    rw (p.1, p.2) (try_wrong (setting_of before) (point_of before) c.args.at (block_tree c.args.body.now) (catches_of (map catch_tree c.args.catches.now))
    c.in_err-body.field-0.0 c.in_err-body.ensures.made)

pub resolve_try-returns-in_err-handlers-clause-made : goal.resolve_try-returns-in_err-handlers-clause-made
resolve_try-returns-in_err-handlers-clause-made t c =
    let before = c.args.self.now in
    let inside = c.resolve_block.new.self in
    let catches = catches_of (map catch_tree c.args.catches.now) in
    let p = err_from_is_err_and c.from_residual-in_err-handlers.result c.from_residual-in_err-handlers.ensures.1 in
    let second = subst (λ setting. IfRefused (IsRefusalOf (catches_finding setting (point_of inside) catches)) c.in_err-handlers.field-0.0)
    (setting_same before inside c.in_ok-body.ensures.later) c.in_err-handlers.ensures.made in
    rw (p.1, p.2) (handlers_wrong (setting_of before) (point_of before) c.args.at (block_tree c.args.body.now) catches (point_of inside) (block_of c.in_ok-body.body.items)
    c.in_err-handlers.field-0.0 c.in_ok-body.ensures.made second)

pub resolve_try-returns-clause-made : goal.resolve_try-returns-clause-made
resolve_try-returns-clause-made t c =
    let before = c.args.self.now in
    let inside = c.resolve_block.new.self in
    let after = c.resolve_catches.new.self in
    let catches = catches_of (map catch_tree c.args.catches.now) in
    let second = subst (λ setting. catches_finding setting (point_of inside) catches ≡ Ok (point_of after, handlers_of c.in_ok-handlers.handlers.items))
    (setting_same before inside c.in_ok-body.ensures.later) c.in_ok-handlers.ensures.made in
    try_done (setting_of before) (point_of before) c.args.at (block_tree c.args.body.now) catches (point_of inside) (point_of after)
    (block_of c.in_ok-body.body.items) (handlers_of c.in_ok-handlers.handlers.items) c.in_ok-body.ensures.made second
    ∙ ap (λ one. Ok (point_of after, one)) (sym (statement_of_try c.args.at c.in_ok-body.body c.in_ok-handlers.handlers))

pub resolve_try-returns-clause-later : goal.resolve_try-returns-clause-later
resolve_try-returns-clause-later t c =
    later_through c.args.self.now c.resolve_block.new.self c.resolve_catches.new.self c.in_ok-body.ensures.later c.in_ok-handlers.ensures.later

-- ---- blocks among statements

pub resolve_nested-returns-in_err-body-clause-made : goal.resolve_nested-returns-in_err-body-clause-made
resolve_nested-returns-in_err-body-clause-made t c =
    let before = c.args.self.now in
    let block = c.args.block.now in
    let p = err_from_is_err_and c.from_residual.result c.from_residual.ensures.1 in
    rw (p.1, p.2) (nested_wrong (setting_of before) (point_of before) block.at (statements_of (map statement_tree block.statements.items)) c.in_err-body.field-0.0 c.in_err-body.ensures.made)

pub resolve_nested-returns-clause-made : goal.resolve_nested-returns-clause-made
resolve_nested-returns-clause-made t c =
    let before = c.args.self.now in
    let after = c.resolve_block.new.self in
    let block = c.args.block.now in
    nested_done (setting_of before) (point_of before) block.at (statements_of (map statement_tree block.statements.items)) (point_of after) (block_of c.in_ok-body.body.items) c.in_ok-body.ensures.made
    ∙ ap (λ one. Ok (point_of after, one)) (sym (statement_of_nested block.at c.in_ok-body.body))

-- ---- along the statements of a block

pub resolve_statements-resolve_statement-requires : goal.resolve_statements-resolve_statement-requires
resolve_statements-resolve_statement-requires t c =
    let fits = statement_fits c.loop-statement.invariant c.statement-item.result c.statement-item.is c.loop-statement-test.true in
    let part = statement_part c.loop-statement.invariant c.statement-item.result c.statement-item.is c.loop-statement-test.true in
    (omega (arith, part), omega (arith, fits))

pub resolve_statements-returns-in_err-resolve_statement-clause-made : goal.resolve_statements-returns-in_err-resolve_statement-clause-made
resolve_statements-returns-in_err-resolve_statement-clause-made t c =
    let p = err_from_is_err_and c.from_residual-in_err-resolve_statement.result c.from_residual-in_err-resolve_statement.ensures.1 in
    rw (p.1, p.2) (statement_wrong c.loop-statement.invariant c.statement-item.result c.statement-item.is c.loop-statement-test.true c.in_err-resolve_statement.field-0.0 c.in_err-resolve_statement.ensures.made)

pub resolve_statements-loop-statement-preserved : goal.resolve_statements-loop-statement-preserved
resolve_statements-loop-statement-preserved t c =
    rw c.in_ok-push.ensures.items (statement_right c.loop-statement.invariant c.statement-item.result c.statement-item.is c.loop-statement-test.true c.resolve_statement.new.self c.in_ok-resolve_statement.field-0
    c.in_ok-resolve_statement.ensures.made c.in_ok-resolve_statement.ensures.later c.in_ok-resolve_statement.ensures.grows)

pub resolve_statements-returns-clause-made : goal.resolve_statements-returns-clause-made
resolve_statements-returns-clause-made t c = statements_done c.loop-statement.invariant (omega arith)

-- ---- along handlers

pub resolve_catches-resolve_block-requires : goal.resolve_catches-resolve_block-requires
resolve_catches-resolve_block-requires t c =
    let fits = catch_fits c.loop-one.invariant c.one-item.result c.one-item.is c.loop-one-test.true in
    let part = catch_part c.loop-one.invariant c.one-item.result c.one-item.is c.loop-one-test.true in
    (omega (arith, part), omega (arith, fits))

pub resolve_catches-returns-in_err-number-clause-made : goal.resolve_catches-returns-in_err-number-clause-made
resolve_catches-returns-in_err-number-clause-made t c =
    let p = err_from_is_err_and c.from_residual-in_err-number.result c.from_residual-in_err-number.ensures.1 in
    rw (p.1, p.2) (exception_wrong c.loop-one.invariant c.one-item.result c.one-item.is c.loop-one-test.true c.in_err-number.field-0.0
    (subst (λ found. IfRefused (IsRefusalOf (use_as (item_of Exception) found c.one-item.result.exception.at)) c.in_err-number.field-0.0) c.look_up.ensures c.in_err-number.ensures))

pub resolve_catches-returns-in_err-body-clause-made : goal.resolve_catches-returns-in_err-body-clause-made
resolve_catches-returns-in_err-body-clause-made t c =
    let p = err_from_is_err_and c.from_residual-in_err-body.result c.from_residual-in_err-body.ensures.1 in
    rw (p.1, p.2) (body_wrong c.loop-one.invariant c.one-item.result c.one-item.is c.loop-one-test.true c.in_ok-number.number (sym (ap (λ found. use_as (item_of Exception) found c.one-item.result.exception.at) c.look_up.ensures) ∙ c.in_ok-number.ensures)
    c.in_err-body.field-0.0 c.in_err-body.ensures.made)

pub resolve_catches-loop-one-preserved : goal.resolve_catches-loop-one-preserved
resolve_catches-loop-one-preserved t c =
    rw c.in_ok-push.ensures.items (catch_right c.loop-one.invariant c.one-item.result c.one-item.is c.loop-one-test.true c.in_ok-number.number (sym (ap (λ found. use_as (item_of Exception) found c.one-item.result.exception.at) c.look_up.ensures) ∙ c.in_ok-number.ensures)
    c.resolve_block.new.self (record { at = c.one-item.result.exception.at; exception = c.in_ok-number.number; body = c.in_ok-body.body }) refl refl c.in_ok-body.ensures.made c.in_ok-body.ensures.later c.in_ok-body.ensures.grows)

pub resolve_catches-returns-clause-made : goal.resolve_catches-returns-clause-made
resolve_catches-returns-clause-made t c = catches_done c.loop-one.invariant (omega arith)
