use Rattle.std.proofs.Common.{arith, refl, sym, ap, ◌∙◌, ◌+◌, drop, map, subst, get_or, length}
use Rattle.std.proofs.lemmas.List.{drop_all}
use Rattle.std.proofs.lemmas.Result.{on_ok_weaker}
use Rattle.resolved.specs.Tree as T
use Rattle.resolved.specs.WellFormed.{statement_nodes}
use Rattle.resolved.specs.TreeOf.{expression_of, some_expression_of, statement_of, block_of, handlers_of}
use Rattle.resolved.specs.declared.statement.Exit.TheVariants.{Normal}
use Rattle.solver.specs.declared.constraints.Atom.TheVariants as stored
use Rattle.constraints.proofs.Along.{Along, Handling, along-start, along-step, along-end, handling-start, handling-step, handling-end}
use Rattle.constraints.proofs.Formed.{form-at, form-by, form-simple, IsValued, block-walked, statement-walked, if-walked, while-walked, try-walked}
use Rattle.constraints.proofs.Ready.{along-first, along-room, along-second, block-goes, form-ready-at, form-room, handling-first, handling-second, if-first, if-second, nested-goes, statement-goes, there-is-next, try-first, try-inside, try-room, try-second, while-goes}
use Rattle.constraints.specs.Ready.{entries_of, AreHandlersReady, AreStatementsReady}
use Rattle.constraints.specs.declared.forms.ArrayStore.{ArrayStore}
use Rattle.constraints.specs.declared.forms.CallSite.{CallSite}
use Rattle.constraints.specs.declared.forms.LoopSite.{LoopSite}
use Rattle.constraints.specs.declared.progress.Progress.{Progress}
use Rattle.resolved.proofs.Measured.{statement-within, handler-within}
use Rattle.constraints.proofs.Taken.{number-at}
use Rattle.constraints.proofs.walking.+walk.Goals as goal
use Rattle.resolved.proofs.Views.{next-statement, next-handler, tree-if, tree-while, tree-try, tree-nested}

pub walk_block-returns : goal.walk_block-returns
walk_block-returns t c =
    block-walked c.args.walk.now.table.now.core.now c.args.walk.now.table.now.core.now.labels (entries_of c.args.walk.now.map.now) c.args.walk.now.procedure
    (block_of c.args.block.now) c.args.context.pc c.args.context.exit_unknowns.now c.within_single-exit_unknowns.result c.in_ok-exits.exits c.is_single.result c.args.progress.now c.begin.new.progress c.walk_statements.new.progress
    c.in_ok-exits.ensures.exits c.in_ok-exits.ensures.added c.is_single.ensures c.within_single-exit_unknowns.ensures.levelled c.within_single-exit_unknowns.ensures.exit_unknowns c.in_ok-walk_statements.ensures

pub walk_statement-returns-clause-exits : goal.walk_statement-returns-clause-exits
walk_statement-returns-clause-exits t c = c.in_ok-exits.ensures.exits

pub walk_statement-returns-clause-added : goal.walk_statement-returns-clause-added
walk_statement-returns-clause-added t c =
    statement-walked c.args.walk.now.table.now.core.now c.args.walk.now.table.now.core.now.labels (entries_of c.args.walk.now.map.now) c.args.walk.now.procedure
    (statement_of c.args.statement.now) c.args.context.pc c.args.context.exit_unknowns.now c.with_normal-exit_unknowns.result c.with_normal.result c.within_single-exit_unknowns.result c.in_ok-exits.exits c.is_single.result c.args.number
    c.args.progress.now c.begin.new.progress c.walk_form.new.progress
    c.in_ok-exits.ensures.exits c.in_ok-exits.ensures.added c.is_single.ensures c.with_normal-exit_unknowns.ensures.levelled c.with_normal-exit_unknowns.ensures.exit_unknowns c.with_normal.ensures.levelled c.with_normal.ensures.exit_unknowns
    c.within_single-exit_unknowns.ensures.levelled c.within_single-exit_unknowns.ensures.exit_unknowns c.in_ok-walk_form.ensures

-- statements without blocks
pub walk_form-returns-in-Assign : goal.walk_form-returns-in-Assign
walk_form-returns-in-Assign t c =
    form-simple c.args.walk.now c.args.context c.around-around.result c.deref.result.now c.args.statement.now (T.Placed c.in-Assign.at (T.Assign c.in-Assign.variable (expression_of c.in-Assign.value))) c.args.progress.now _ c.add_valued.result
    (ap statement_of c.in-Assign.is) refl refl c.deref.ensures.value refl c.around-around.ensures.pc c.around-around.ensures.exit_unknowns
    (on_ok_weaker c.add_valued.result (λ valued n. subst (IsValued c.args.walk.now c.around-around.result (expression_of c.in-Assign.value) Normal c.args.progress.now.constraints.items c.add_valued.new.constraints.items) c.of_assignment-demand.ensures valued) c.add_valued.ensures)

pub walk_form-returns-in-Clear : goal.walk_form-returns-in-Clear
walk_form-returns-in-Clear t c =
    form-simple c.args.walk.now c.args.context c.around-around.result c.deref.result.now c.args.statement.now (T.Placed c.in-Clear.at (T.Clear c.in-Clear.slot)) c.args.progress.now _ c.add_clear.result
    (ap statement_of c.in-Clear.is) refl refl c.deref.ensures.value refl c.around-around.ensures.pc c.around-around.ensures.exit_unknowns c.add_clear.ensures

pub walk_form-returns-in-Store : goal.walk_form-returns-in-Store
walk_form-returns-in-Store t c =
    form-simple c.args.walk.now c.args.context c.around-around.result c.deref.result.now c.args.statement.now (T.Placed c.new-store.result.at (T.Store c.new-store.result.array c.new-store.result.length (expression_of c.in-Store.index) (expression_of c.in-Store.value))) c.args.progress.now _ c.add_store.result
    (ap statement_of c.in-Store.is ∙ ap (λ (x : ArrayStore). T.Placed x.at (T.Store x.array x.length (expression_of c.in-Store.index) (expression_of c.in-Store.value))) (sym c.new-store.ensures)) refl refl c.deref.ensures.value refl c.around-around.ensures.pc c.around-around.ensures.exit_unknowns c.add_store.ensures

pub walk_form-returns-in-Receive : goal.walk_form-returns-in-Receive
walk_form-returns-in-Receive t c =
    form-simple c.args.walk.now c.args.context c.around-around.result c.deref.result.now c.args.statement.now (T.Placed c.in-Receive.at (T.Receive c.in-Receive.channel c.in-Receive.target)) c.args.progress.now _ c.add_receive.result
    (ap statement_of c.in-Receive.is) refl refl c.deref.ensures.value refl c.around-around.ensures.pc c.around-around.ensures.exit_unknowns c.add_receive.ensures

pub walk_form-returns-in-Send : goal.walk_form-returns-in-Send
walk_form-returns-in-Send t c =
    form-simple c.args.walk.now c.args.context c.around-around.result c.deref.result.now c.args.statement.now (T.Placed c.in-Send.at (T.Send c.in-Send.channel (expression_of c.in-Send.value))) c.args.progress.now _ c.add_valued-in-Send.result
    (ap statement_of c.in-Send.is) refl refl c.deref.ensures.value refl c.around-around.ensures.pc c.around-around.ensures.exit_unknowns
    (on_ok_weaker c.add_valued-in-Send.result (λ valued n. subst (IsValued c.args.walk.now c.around-around.result (expression_of c.in-Send.value) Normal c.args.progress.now.constraints.items c.add_valued-in-Send.new.constraints.items) c.of_send-demand.ensures valued) c.add_valued-in-Send.ensures)

pub walk_form-returns-in-Leave : goal.walk_form-returns-in-Leave
walk_form-returns-in-Leave t c =
    form-simple c.args.walk.now c.args.context c.around-around.result c.deref.result.now c.args.statement.now (T.Placed c.in-Leave.at (T.Leave c.in-Leave.exit)) c.args.progress.now _ c.add_leave.result
    (ap statement_of c.in-Leave.is) refl refl c.deref.ensures.value refl c.around-around.ensures.pc c.around-around.ensures.exit_unknowns c.add_leave.ensures

pub walk_form-returns-in-Return : goal.walk_form-returns-in-Return
walk_form-returns-in-Return t c =
    form-simple c.args.walk.now c.args.context c.around-around.result c.deref.result.now c.args.statement.now (T.Placed c.in-Return.at (T.ReturnWith (some_expression_of c.in-Return.value))) c.args.progress.now _ c.add_return.result
    (ap statement_of c.in-Return.is) refl refl c.deref.ensures.value refl c.around-around.ensures.pc c.around-around.ensures.exit_unknowns c.add_return.ensures

-- a call
pub walk_form-returns-in-Call : goal.walk_form-returns-in-Call
walk_form-returns-in-Call t c =
    form-by c.args.walk.now c.args.context c.args.statement.now (T.Placed c.new-site.result.at (T.Call c.new-site.result.callee (map expression_of c.deref-in-Call.result.now) c.new-site.result.target)) c.args.progress.now _
    c.walk_call.result (ap statement_of c.in-Call.is ∙ ap (λ xs. T.Placed c.in-Call.at (T.Call c.in-Call.callee (map expression_of xs) c.in-Call.target)) (sym c.deref-in-Call.ensures.value)
    ∙ ap (λ (x : CallSite). T.Placed x.at (T.Call x.callee (map expression_of c.deref-in-Call.result.now) x.target)) (sym c.new-site.ensures)) c.walk_call.ensures

-- forms with blocks
pub walk_form-returns-in-If : goal.walk_form-returns-in-If
walk_form-returns-in-If t c =
    on_ok_weaker c.walk_if.result
    (λ walked. form-at c.args.walk.now.table.now.core.now c.args.walk.now.table.now.core.now.labels (entries_of c.args.walk.now.map.now) c.args.walk.now.procedure
    c.args.statement.now (T.Placed c.in-If.field-0 (T.If (expression_of c.in-If.condition) (block_of c.deref-in-If.result.now) (block_of c.deref-in-If-2.result.now))) c.args.context.pc c.args.context.exit_unknowns.now c.args.progress.now _
    (tree-if c.args.statement.now c.in-If.field-0 c.in-If.condition c.in-If.then_block c.in-If.else_block c.deref-in-If.result.now c.deref-in-If-2.result.now c.in-If.is c.deref-in-If.ensures.value c.deref-in-If-2.ensures.value) (walked c.in-If.field-0))
    c.walk_if.ensures

pub walk_form-returns-in-While : goal.walk_form-returns-in-While
walk_form-returns-in-While t c =
    form-by c.args.walk.now c.args.context c.args.statement.now (T.Placed c.new-site-in-While.result.at (T.While c.new-site-in-While.result.number (expression_of c.in-While.condition) (block_of c.deref-in-While.result.now))) c.args.progress.now _
    c.walk_while.result (tree-while c.args.statement.now c.in-While.at c.in-While.number c.in-While.condition c.in-While.body c.deref-in-While.result.now c.in-While.is c.deref-in-While.ensures.value
    ∙ ap (λ (x : LoopSite). T.Placed x.at (T.While x.number (expression_of c.in-While.condition) (block_of c.deref-in-While.result.now))) (sym c.new-site-in-While.ensures)) c.walk_while.ensures

pub walk_form-returns-in-Try : goal.walk_form-returns-in-Try
walk_form-returns-in-Try t c =
    on_ok_weaker c.walk_try.result
    (λ walked. form-at c.args.walk.now.table.now.core.now c.args.walk.now.table.now.core.now.labels (entries_of c.args.walk.now.map.now) c.args.walk.now.procedure
    c.args.statement.now (T.Placed c.in-Try.field-0 (T.Try (block_of c.deref-in-Try.result.now) (handlers_of c.deref-in-Try-2.result.now))) c.args.context.pc c.args.context.exit_unknowns.now c.args.progress.now _
    (tree-try c.args.statement.now c.in-Try.field-0 c.in-Try.block c.in-Try.handlers c.deref-in-Try.result.now c.deref-in-Try-2.result.now c.in-Try.is c.deref-in-Try.ensures.value c.deref-in-Try-2.ensures.value) (walked c.in-Try.field-0))
    c.walk_try.ensures

pub walk_form-returns-in-Nested : goal.walk_form-returns-in-Nested
walk_form-returns-in-Nested t c =
    form-by c.args.walk.now c.args.context c.args.statement.now (T.Placed c.in-Nested.field-0 (T.Nested (block_of c.deref-in-Nested.result.now))) c.args.progress.now _
    c.walk_block.result (tree-nested c.args.statement.now c.in-Nested.field-0 c.in-Nested.block c.deref-in-Nested.result.now c.in-Nested.is c.deref-in-Nested.ensures.value) c.walk_block.ensures

pub walk_if-returns : goal.walk_if-returns
walk_if-returns t c = λ at.
    if-walked c.args.walk.now.table.now.core.now c.args.walk.now.table.now.core.now.labels (entries_of c.args.walk.now.map.now) c.args.walk.now.procedure
    at (expression_of c.args.condition.now) (block_of c.args.then_block.now) (block_of c.args.else_block.now) c.args.context.pc (stored.Unknown c.in_ok-number.number) c.args.context.exit_unknowns.now c.in_ok-number.number
    c.args.progress.now c.begin_branch.new.progress c.walk_block.new.progress c.walk_block-2.new.progress
    c.in_ok-number.ensures.number refl c.in_ok-number.ensures.added c.in_ok-walk_block.ensures c.in_ok-walk_block-2.ensures

pub walk_while-returns : goal.walk_while-returns
walk_while-returns t c =
    while-walked c.args.walk.now.table.now.core.now c.args.walk.now.table.now.core.now.labels (entries_of c.args.walk.now.map.now) c.args.walk.now.procedure
    c.args.site.at c.args.site.number (expression_of c.args.condition.now) (block_of c.args.body.now) c.args.context.pc (stored.Unknown c.in_ok-inner.inner) c.args.context.exit_unknowns.now c.in_loop-exit_unknowns.result c.in_ok-inner.inner c.in_ok-inner.back
    c.args.progress.now c.begin_loop.new.progress c.walk_block.new.progress c.end_loop.new.progress
    c.in_ok-inner.ensures.inner c.in_ok-inner.ensures.back refl c.in_loop-exit_unknowns.ensures.exit_unknowns c.in_loop-exit_unknowns.ensures.levelled
    c.in_ok-inner.ensures.added c.in_ok-walk_block.ensures c.in_ok-end_loop.ensures

pub walk_try-returns : goal.walk_try-returns
walk_try-returns t c = λ at.
    let after : Progress = record c.walk_block.new.progress { thrown = c.put_back.new.thrown; journal = c.note_exceptions.new.self } in
    try-walked c.args.walk.now.table.now.core.now c.args.walk.now.table.now.core.now.labels (entries_of c.args.walk.now.map.now) c.args.walk.now.procedure
    at (block_of c.args.block.now) c.args.handlers.now c.args.context.pc c.args.context.exit_unknowns.now c.in_ok-tried.tried c.deref.result.now
    c.args.progress.now c.begin_try.new.progress c.walk_block.new.progress after c.walk_handlers.new.progress
    c.in_ok-tried.ensures c.in_ok-walk_block.ensures refl refl refl c.put_back.ensures
    c.in_ok-note_exceptions.ensures.calls c.in_ok-note_exceptions.ensures.moments c.in_ok-note_exceptions.ensures.count c.deref.ensures.value
    (λ number other are. c.in_ok-walk_handlers.ensures number other (c.deref-2.ensures.value ∙ are))

-- along the statements of a block
pub walk_statements-loop-statement-init : goal.walk_statements-loop-statement-init
walk_statements-loop-statement-init t c = record {
  along = along-start c.args.walk.now.table.now.core.now c.args.walk.now.table.now.core.now.labels (entries_of c.args.walk.now.map.now) c.args.walk.now.procedure c.args.context.pc c.args.context.exit_unknowns.now (block_of c.args.block.now) c.args.progress.now;
  ready = c.requires;
}

pub walk_statements-loop-statement-preserved : goal.walk_statements-loop-statement-preserved
walk_statements-loop-statement-preserved t c =
    let statement = statement_of c.statement-item.result in
    let rest = block_of (drop (c.loop-statement.statement-index + 1) c.args.block.now) in
    let tree = next-statement c.args.block.now c.loop-statement.statement-index c.statement-item.result c.loop-statement-test.true c.statement-item.is in
    record {
      along = along-step c.args.walk.now.table.now.core.now c.args.walk.now.table.now.core.now.labels (entries_of c.args.walk.now.map.now) c.args.walk.now.procedure
          c.args.context.pc c.args.context.exit_unknowns.now (block_of c.args.block.now) c.args.progress.now statement rest
          c.loop-statement.reached c.loop-statement.onward c.onward_pc-onward.result c.loop-statement.progress c.make-number.new.self c.walk_statement.new.progress c.in_ok-exits.exits c.make-number.result
          (subst (λ tree'. Along c.args.walk.now.table.now.core.now c.args.walk.now.table.now.core.now.labels (entries_of c.args.walk.now.map.now) c.args.walk.now.procedure c.args.context.pc c.args.context.exit_unknowns.now (block_of c.args.block.now) c.args.progress.now tree' c.loop-statement.reached c.loop-statement.onward c.loop-statement.progress)
          tree c.loop-statement.invariant.along)
          c.make-number.ensures.made c.make-number.ensures.first c.in_ok-exits.ensures.exits c.in_ok-exits.ensures.added c.onward_pc-onward.ensures;
      ready = along-second c.args.walk.now.table.now.core.now c.args.walk.now.table.now.core.now.labels (entries_of c.args.walk.now.map.now) c.args.walk.now.procedure
          c.loop-statement.onward c.args.context.exit_unknowns.now c.make-number.result statement rest c.loop-statement.progress c.make-number.new.self c.walk_statement.new.progress
          (subst (λ tree'. AreStatementsReady c.args.walk.now.table.now.core.now (entries_of c.args.walk.now.map.now) c.args.walk.now.procedure c.args.context.exit_unknowns.now tree' c.loop-statement.progress) tree c.loop-statement.invariant.ready)
          c.make-number.ensures.made c.in_ok-exits.ensures.added;
    }

pub walk_statements-returns : goal.walk_statements-returns
walk_statements-returns t c =
    along-end c.args.walk.now.table.now.core.now c.args.walk.now.table.now.core.now.labels (entries_of c.args.walk.now.map.now) c.args.walk.now.procedure
    c.args.context.pc c.args.context.exit_unknowns.now (block_of c.args.block.now) c.args.progress.now c.loop-statement.reached c.loop-statement.onward c.loop-statement.progress c.end_block.new.progress
    (subst (λ tree. Along c.args.walk.now.table.now.core.now c.args.walk.now.table.now.core.now.labels (entries_of c.args.walk.now.map.now) c.args.walk.now.procedure c.args.context.pc c.args.context.exit_unknowns.now (block_of c.args.block.now) c.args.progress.now tree c.loop-statement.reached c.loop-statement.onward c.loop-statement.progress)
    (ap block_of (drop_all c.loop-statement.statement-index c.args.block.now c.loop-statement-test.false)) c.loop-statement.invariant.along)
    c.in_ok-end_block.ensures

-- along handlers
pub walk_handlers-loop-i-init : goal.walk_handlers-loop-i-init
walk_handlers-loop-i-init t c = record {
  handling = λ number are.
      handling-start c.args.walk.now.table.now.core.now c.args.walk.now.table.now.core.now.labels (entries_of c.args.walk.now.map.now) c.args.walk.now.procedure number c.args.exit_unknowns.now (handlers_of c.args.handlers.now) c.args.progress.now;
  ready = c.requires.ready;
}

pub walk_handlers-returns : goal.walk_handlers-returns
walk_handlers-returns t c = λ number pc are.
    handling-end c.args.walk.now.table.now.core.now c.args.walk.now.table.now.core.now.labels (entries_of c.args.walk.now.map.now) c.args.walk.now.procedure number c.args.exit_unknowns.now (handlers_of c.args.handlers.now) c.args.progress.now c.loop-i.progress pc
    (subst (λ tree. Handling c.args.walk.now.table.now.core.now c.args.walk.now.table.now.core.now.labels (entries_of c.args.walk.now.map.now) c.args.walk.now.procedure number c.args.exit_unknowns.now (handlers_of c.args.handlers.now) c.args.progress.now tree c.loop-i.progress)
    (ap handlers_of (drop_all c.loop-i.i c.args.handlers.now c.loop-i-test.false)) (c.loop-i.invariant.handling number are))

pub walk_handlers-loop-i-preserved : goal.walk_handlers-loop-i-preserved
walk_handlers-loop-i-preserved t c =
    let handler = c.index-handlers-i.result in
    let rest = handlers_of (drop (c.loop-i.i + 1) c.args.handlers.now) in
    let tree = next-handler c.args.handlers.now c.loop-i.i handler c.deref.result.now c.loop-i-test.true c.index-handlers-i.is c.deref.ensures.value in
    let own = get_or c.args.numbers.now c.loop-i.i 0 in
    record {
      handling = λ number are.
          handling-step c.args.walk.now.table.now.core.now c.args.walk.now.table.now.core.now.labels (entries_of c.args.walk.now.map.now) c.args.walk.now.procedure
          number c.args.exit_unknowns.now (handlers_of c.args.handlers.now) c.args.progress.now handler.at handler.exception (block_of c.deref.result.now) rest
          (stored.Unknown own) own c.loop-i.progress c.walk_block.new.progress
          (subst (λ tree'. Handling c.args.walk.now.table.now.core.now c.args.walk.now.table.now.core.now.labels (entries_of c.args.walk.now.map.now) c.args.walk.now.procedure number c.args.exit_unknowns.now (handlers_of c.args.handlers.now) c.args.progress.now tree' c.loop-i.progress)
          tree (c.loop-i.invariant.handling number are))
          (number-at c.args.numbers.now number c.args.handlers.now c.loop-i.i handler own 0 are c.loop-i-test.true c.index-handlers-i.is refl)
          refl c.in_ok-walk_block.ensures;
      ready = handling-second c.args.walk.now.table.now.core.now c.args.walk.now.table.now.core.now.labels (entries_of c.args.walk.now.map.now) c.args.walk.now.procedure
          (stored.Unknown own) c.args.exit_unknowns.now handler.at handler.exception (block_of c.deref.result.now) rest c.loop-i.progress c.walk_block.new.progress
          (subst (λ tree'. AreHandlersReady c.args.walk.now.table.now.core.now (entries_of c.args.walk.now.map.now) c.args.walk.now.procedure c.args.exit_unknowns.now tree' c.loop-i.progress) tree c.loop-i.invariant.ready)
          c.in_ok-walk_block.ensures;
    }

-- ---- each call is of something smaller, and what it asks for holds
pub walk_block-begin-requires : goal.walk_block-begin-requires
walk_block-begin-requires t c =
    there-is-next (entries_of c.args.walk.now.map.now) c.args.progress.now.index _ _ c.requires.goes_on

pub walk_block-walk_statements-requires : goal.walk_block-walk_statements-requires
walk_block-walk_statements-requires t c = (
  omega arith,
  block-goes c.args.walk.now.table.now.core.now c.args.walk.now.table.now.core.now.labels (entries_of c.args.walk.now.map.now) c.args.walk.now.procedure
      (block_of c.args.block.now) c.args.context.pc c.args.context.exit_unknowns.now c.within_single-exit_unknowns.result c.args.progress.now c.begin.new.progress
      c.requires c.in_ok-exits.ensures.added c.within_single-exit_unknowns.ensures.levelled c.within_single-exit_unknowns.ensures.level,
)

pub walk_statements-walk_statement-requires : goal.walk_statements-walk_statement-requires
walk_statements-walk_statement-requires t c = (
  omega (arith, statement-within c.args.block.now c.loop-statement.statement-index c.statement-item.result c.loop-statement-test.true c.statement-item.is),
  along-first c.args.walk.now.table.now.core.now c.args.walk.now.table.now.core.now.labels (entries_of c.args.walk.now.map.now) c.args.walk.now.procedure
      c.args.context.exit_unknowns.now (statement_of c.statement-item.result) (block_of (drop (c.loop-statement.statement-index + 1) c.args.block.now)) c.loop-statement.progress c.make-number.new.self
      (subst (λ tree. AreStatementsReady c.args.walk.now.table.now.core.now (entries_of c.args.walk.now.map.now) c.args.walk.now.procedure c.args.context.exit_unknowns.now tree c.loop-statement.progress)
      (next-statement c.args.block.now c.loop-statement.statement-index c.statement-item.result c.loop-statement-test.true c.statement-item.is) c.loop-statement.invariant.ready)
      c.make-number.ensures.made,
)

pub walk_statements-make-number-requires : goal.walk_statements-make-number-requires
walk_statements-make-number-requires t c =
    along-room c.args.walk.now.table.now.core.now c.args.walk.now.table.now.core.now.labels (entries_of c.args.walk.now.map.now) c.args.walk.now.procedure
    c.args.context.exit_unknowns.now (statement_of c.statement-item.result) (block_of (drop (c.loop-statement.statement-index + 1) c.args.block.now)) c.loop-statement.progress
    (subst (λ tree. AreStatementsReady c.args.walk.now.table.now.core.now (entries_of c.args.walk.now.map.now) c.args.walk.now.procedure c.args.context.exit_unknowns.now tree c.loop-statement.progress)
    (next-statement c.args.block.now c.loop-statement.statement-index c.statement-item.result c.loop-statement-test.true c.statement-item.is) c.loop-statement.invariant.ready)

pub walk_statement-begin-requires : goal.walk_statement-begin-requires
walk_statement-begin-requires t c =
    there-is-next (entries_of c.args.walk.now.map.now) c.args.progress.now.index _ _ c.requires.goes_on

pub walk_statement-walk_form-requires : goal.walk_statement-walk_form-requires
walk_statement-walk_form-requires t c = (
  omega arith,
  statement-goes c.args.walk.now.table.now.core.now c.args.walk.now.table.now.core.now.labels (entries_of c.args.walk.now.map.now) c.args.walk.now.procedure
      (statement_of c.args.statement.now) c.args.context.pc c.args.context.exit_unknowns.now c.with_normal-exit_unknowns.result c.with_normal.result c.within_single-exit_unknowns.result c.args.progress.now c.begin.new.progress
      c.requires c.in_ok-exits.ensures.added c.with_normal-exit_unknowns.ensures.levelled c.with_normal.ensures.levelled c.within_single-exit_unknowns.ensures.levelled
      c.with_normal.ensures.level c.within_single-exit_unknowns.ensures.level,
)

pub walk_form-walk_if-requires : goal.walk_form-walk_if-requires
walk_form-walk_if-requires t c =
    let tree = tree-if c.args.statement.now c.in-If.field-0 c.in-If.condition c.in-If.then_block c.in-If.else_block c.deref-in-If.result.now c.deref-in-If-2.result.now c.in-If.is c.deref-in-If.ensures.value c.deref-in-If-2.ensures.value in (
      omega (arith, ap statement_nodes tree),
      form-ready-at c.args.walk.now.table.now.core.now (entries_of c.args.walk.now.map.now) c.args.walk.now.procedure c.args.statement.now _ c.args.context.exit_unknowns.now c.args.progress.now tree c.requires,
    )

pub walk_form-walk_while-requires : goal.walk_form-walk_while-requires
walk_form-walk_while-requires t c =
    let tree = tree-while c.args.statement.now c.in-While.at c.in-While.number c.in-While.condition c.in-While.body c.deref-in-While.result.now c.in-While.is c.deref-in-While.ensures.value
    ∙ ap (λ (x : LoopSite). T.Placed x.at (T.While x.number (expression_of c.in-While.condition) (block_of c.deref-in-While.result.now))) (sym c.new-site-in-While.ensures) in (
      omega (arith, ap statement_nodes tree),
      form-ready-at c.args.walk.now.table.now.core.now (entries_of c.args.walk.now.map.now) c.args.walk.now.procedure c.args.statement.now _ c.args.context.exit_unknowns.now c.args.progress.now tree c.requires,
    )

pub walk_form-walk_try-requires : goal.walk_form-walk_try-requires
walk_form-walk_try-requires t c =
    let tree = tree-try c.args.statement.now c.in-Try.field-0 c.in-Try.block c.in-Try.handlers c.deref-in-Try.result.now c.deref-in-Try-2.result.now c.in-Try.is c.deref-in-Try.ensures.value c.deref-in-Try-2.ensures.value in (
      omega (arith, ap statement_nodes tree),
      form-ready-at c.args.walk.now.table.now.core.now (entries_of c.args.walk.now.map.now) c.args.walk.now.procedure c.args.statement.now _ c.args.context.exit_unknowns.now c.args.progress.now tree c.requires,
    )

pub walk_form-walk_block-requires : goal.walk_form-walk_block-requires
walk_form-walk_block-requires t c =
    let tree = tree-nested c.args.statement.now c.in-Nested.field-0 c.in-Nested.block c.deref-in-Nested.result.now c.in-Nested.is c.deref-in-Nested.ensures.value in (
      omega (arith, ap statement_nodes tree),
      nested-goes c.args.walk.now.table.now.core.now c.args.walk.now.table.now.core.now.labels (entries_of c.args.walk.now.map.now) c.args.walk.now.procedure
          c.in-Nested.field-0 (block_of c.deref-in-Nested.result.now) c.args.context.exit_unknowns.now c.args.progress.now
          (form-ready-at c.args.walk.now.table.now.core.now (entries_of c.args.walk.now.map.now) c.args.walk.now.procedure c.args.statement.now _ c.args.context.exit_unknowns.now c.args.progress.now tree c.requires),
    )

pub walk_if-walk_block-requires : goal.walk_if-walk_block-requires
walk_if-walk_block-requires t c = (
  omega arith,
  if-first c.args.walk.now.table.now.core.now c.args.walk.now.table.now.core.now.labels (entries_of c.args.walk.now.map.now) c.args.walk.now.procedure
      0 (expression_of c.args.condition.now) (block_of c.args.then_block.now) (block_of c.args.else_block.now) c.args.context.pc c.args.context.exit_unknowns.now _
      c.args.progress.now c.begin_branch.new.progress c.requires c.in_ok-number.ensures.added,
)

pub walk_if-walk_block-requires-2 : goal.walk_if-walk_block-requires-2
walk_if-walk_block-requires-2 t c = (
  omega arith,
  if-second c.args.walk.now.table.now.core.now c.args.walk.now.table.now.core.now.labels (entries_of c.args.walk.now.map.now) c.args.walk.now.procedure
      0 (expression_of c.args.condition.now) (block_of c.args.then_block.now) (block_of c.args.else_block.now) c.args.context.pc (stored.Unknown c.in_ok-number.number) c.args.context.exit_unknowns.now _
      c.args.progress.now c.begin_branch.new.progress c.walk_block.new.progress c.requires c.in_ok-number.ensures.added c.in_ok-walk_block.ensures,
)

pub walk_while-walk_block-requires : goal.walk_while-walk_block-requires
walk_while-walk_block-requires t c = (
  omega arith,
  while-goes c.args.walk.now.table.now.core.now c.args.walk.now.table.now.core.now.labels (entries_of c.args.walk.now.map.now) c.args.walk.now.procedure
      c.args.site.at c.args.site.number (expression_of c.args.condition.now) (block_of c.args.body.now) c.args.context.pc c.args.context.exit_unknowns.now c.in_loop-exit_unknowns.result _
      c.args.progress.now c.begin_loop.new.progress c.requires c.in_ok-inner.ensures.added c.in_loop-exit_unknowns.ensures.levelled c.in_loop-exit_unknowns.ensures.level,
)

pub walk_try-begin_try-requires : goal.walk_try-begin_try-requires
walk_try-begin_try-requires t c =
    let room = try-room c.args.walk.now.table.now.core.now c.args.walk.now.table.now.core.now.labels (entries_of c.args.walk.now.map.now) c.args.walk.now.procedure
    0 (block_of c.args.block.now) c.args.handlers.now c.args.context.exit_unknowns.now c.args.progress.now c.requires in
    record {
      inside = try-inside c.args.walk.now.table.now.core.now c.args.walk.now.table.now.core.now.labels (entries_of c.args.walk.now.map.now) c.args.walk.now.procedure
          0 (block_of c.args.block.now) c.args.handlers.now c.args.context.exit_unknowns.now c.args.progress.now c.requires;
      room = room.0;
      deep = room.1;
    }

pub walk_try-walk_block-requires : goal.walk_try-walk_block-requires
walk_try-walk_block-requires t c = (
  omega arith,
  try-first c.args.walk.now.table.now.core.now c.args.walk.now.table.now.core.now.labels (entries_of c.args.walk.now.map.now) c.args.walk.now.procedure
      0 (block_of c.args.block.now) c.args.handlers.now c.args.context.exit_unknowns.now c.in_ok-tried.tried c.args.progress.now c.begin_try.new.progress
      c.requires c.in_ok-tried.ensures,
)

pub walk_try-walk_handlers-requires : goal.walk_try-walk_handlers-requires
walk_try-walk_handlers-requires t c =
    let after : Progress = record c.walk_block.new.progress { thrown = c.put_back.new.thrown; journal = c.note_exceptions.new.self } in
    let numbered = ap length c.deref-2.ensures.value ∙ c.in_ok-tried.ensures.count_is in (
      omega arith,
      (
        numbered,
        try-second c.args.walk.now.table.now.core.now c.args.walk.now.table.now.core.now.labels (entries_of c.args.walk.now.map.now) c.args.walk.now.procedure
            0 (block_of c.args.block.now) c.args.handlers.now c.args.context.pc c.args.context.exit_unknowns.now c.in_ok-tried.tried c.args.progress.now c.begin_try.new.progress c.walk_block.new.progress after
            c.requires c.in_ok-tried.ensures c.in_ok-walk_block.ensures refl refl c.put_back.ensures,
      ),
    )

pub walk_handlers-walk_block-requires : goal.walk_handlers-walk_block-requires
walk_handlers-walk_block-requires t c =
    let handler = c.index-handlers-i.result in (
      omega (arith, handler-within c.args.handlers.now c.loop-i.i handler c.deref.result.now c.loop-i-test.true c.index-handlers-i.is c.deref.ensures.value),
      handling-first c.args.walk.now.table.now.core.now c.args.walk.now.table.now.core.now.labels (entries_of c.args.walk.now.map.now) c.args.walk.now.procedure
          c.args.exit_unknowns.now handler.at handler.exception (block_of c.deref.result.now) (handlers_of (drop (c.loop-i.i + 1) c.args.handlers.now)) c.loop-i.progress
          (subst (λ tree. AreHandlersReady c.args.walk.now.table.now.core.now (entries_of c.args.walk.now.map.now) c.args.walk.now.procedure c.args.exit_unknowns.now tree c.loop-i.progress)
          (next-handler c.args.handlers.now c.loop-i.i handler c.deref.result.now c.loop-i-test.true c.index-handlers-i.is c.deref.ensures.value) c.loop-i.invariant.ready),
    )

-- each form makes its own unknowns
pub walk_form-walk_call-requires : goal.walk_form-walk_call-requires
walk_form-walk_call-requires t c =
    form-room c.args.walk.now.table.now.core.now c.args.walk.now.table.now.core.now.labels (entries_of c.args.walk.now.map.now) c.args.walk.now.procedure c.args.context.exit_unknowns.now
    (T.Placed c.in-Call.at (T.Call c.in-Call.callee (map expression_of c.deref-in-Call.result.now) c.in-Call.target)) 1 c.args.progress.now
    (form-ready-at c.args.walk.now.table.now.core.now (entries_of c.args.walk.now.map.now) c.args.walk.now.procedure c.args.statement.now _ c.args.context.exit_unknowns.now c.args.progress.now
    (ap statement_of c.in-Call.is ∙ ap (λ xs. T.Placed c.in-Call.at (T.Call c.in-Call.callee (map expression_of xs) c.in-Call.target)) (sym c.deref-in-Call.ensures.value)) c.requires)
    (omega arith)

pub walk_if-begin_branch-requires : goal.walk_if-begin_branch-requires
walk_if-begin_branch-requires t c =
    form-room c.args.walk.now.table.now.core.now c.args.walk.now.table.now.core.now.labels (entries_of c.args.walk.now.map.now) c.args.walk.now.procedure c.args.context.exit_unknowns.now
    (T.Placed 0 (T.If (expression_of c.args.condition.now) (block_of c.args.then_block.now) (block_of c.args.else_block.now))) 1 c.args.progress.now c.requires (omega arith)

pub walk_while-begin_loop-requires : goal.walk_while-begin_loop-requires
walk_while-begin_loop-requires t c =
    form-room c.args.walk.now.table.now.core.now c.args.walk.now.table.now.core.now.labels (entries_of c.args.walk.now.map.now) c.args.walk.now.procedure c.args.context.exit_unknowns.now
    (T.Placed c.args.site.at (T.While c.args.site.number (expression_of c.args.condition.now) (block_of c.args.body.now))) 2 c.args.progress.now c.requires (omega arith)
