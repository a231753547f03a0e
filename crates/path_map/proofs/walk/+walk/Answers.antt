use Rattle.std.specs.Prelude.{flat_map}
use Rattle.common.specs.Answers.{IfRefused}
use Rattle.std.proofs.Common.{◌≡◌, refl, sym, ap, ◌∙◌, subst, ◌+◌, arith, List, [], true, false, map, drop, rules, ◌++◌}
use Rattle.std.proofs.lemmas.Bool.{not-false}
use Rattle.std.proofs.lemmas.List.{drop_all}
use Rattle.std.proofs.lemmas.Result.{IfOk-weaker, IfErr-weaker, on_ok_weaker}
use Rattle.resolved.specs.FaultParts.{inner_faults}
use Rattle.resolved.specs.CoreOf.{program_of}
use Rattle.resolved.specs.Exits.{block_exits, raises, index_raises, statement_exits}
use Rattle.resolved.specs.ExitFaults.{block_faults, handlers_faults}
use Rattle.resolved.specs.Tree as T
use Rattle.resolved.specs.TreeOf.{expression_of, some_expression_of, statement_of, block_of, handlers_of}
use Rattle.resolved.specs.declared.statement.Exit.{Exit}
use Rattle.path_map.specs.FirstFault.{IsFirstEndFault}
use Rattle.path_map.specs.Paths.{block_paths, rest_paths, inner_paths, statement_paths}
use Rattle.path_map.specs.Joins.{raises_some}
use Rattle.path_map.specs.Sets.{members}
use Rattle.path_map.specs.Walks.{IsFound, AreThrown}
use Rattle.path_map.proofs.Walking.{along-begin, handling-begin, has-room, reserved, inside, along-step, along-end, never-raised, in-handler, handling-step, first-left, first-right, none-both, Along, Handling, sum-none}
use Rattle.path_map.proofs.Forms.{found-at, faults-at, first-at, return-found, if-found, while-found, try-is-found, tried-throws}
use Rattle.resolved.specs.WellFormed.{statement_nodes}
use Rattle.resolved.proofs.Measured.{handler-within, statement-within}
use Rattle.path_map.proofs.Fitting.{body-fits, handler-fits, handlers-fit, nested-fits, no-fits, statement-fits, tried-fits, yes-fits}
use Rattle.path_map.proofs.walk.+walk.Goals as goal
use Rattle.resolved.proofs.Views.{next-statement, next-handler, tree-if, tree-while, tree-try, tree-nested}

-- a block: room is made for its entry, and for that of each of its statements
pub walk_block-loop-statement-init : goal.walk_block-loop-statement-init
walk_block-loop-statement-init t c =
    record {
      along = along-begin (program_of c.args.walk.now.core.now) c.args.in_loop (block_of c.args.block.now) c.reserve.new.self (members c.new-own.result)
          c.go_on_or_raise-exits.result c.go_on_or_raise-exits.ensures;
      bound = c.new-own.ensures.bound;
    }

pub walk_block-put-requires : goal.walk_block-put-requires
walk_block-put-requires t c =
    let program = program_of c.args.walk.now.core.now in
    let statement = statement_of c.statement-item.result in
    has-room (statement_exits program statement) (inner_paths program statement) c.loop-statement.table c.reserve-in-loop-statement.new.self c.walk_form.new.table c.in_ok-place.place
    (members c.new-inner.result) (members c.walk_form.new.raised) c.in_ok-found.found c.in_ok-place.ensures.room c.in_ok-place.ensures.number c.in_ok-found.ensures.found

pub walk_block-returns-in_err-found-clause-first_fault : goal.walk_block-returns-in_err-found-clause-first_fault
walk_block-returns-in_err-found-clause-first_fault t c =
    let program = program_of c.args.walk.now.core.now in
    let block = block_of c.args.block.now in
    let statement = statement_of c.statement-item.result in
    let tail = block_of (drop (c.loop-statement.statement-index + 1) c.args.block.now) in
    let along : Along program c.args.in_loop block (T.Then statement tail) c.reserve.new.self c.loop-statement.table (members c.new-own.result) (members c.loop-statement.own) c.loop-statement.exits =
    subst (λ rest. Along program c.args.in_loop block rest c.reserve.new.self c.loop-statement.table (members c.new-own.result) (members c.loop-statement.own) c.loop-statement.exits)
    (next-statement c.args.block.now c.loop-statement.statement-index c.statement-item.result c.loop-statement-test.true c.statement-item.is) c.loop-statement.invariant.along in
    let first : IfRefused (IsFirstEndFault (block_faults program c.args.in_loop true block)) c.in_err-found.field-0.0 =
    inside program c.args.in_loop block c.reserve.new.self (members c.new-own.result) statement tail c.loop-statement.table (members c.loop-statement.own) c.loop-statement.exits along
    (sym c.may_stand.ensures ∙ c.if-not-may_stand.false) (not-false c.loop-statement.exits.normal c.if-not-exits.false) c.in_err-found.field-0.0 c.in_err-found.ensures.first_fault in
    search (rules, first)

pub walk_block-loop-statement-preserved : goal.walk_block-loop-statement-preserved
walk_block-loop-statement-preserved t c =
    let program = program_of c.args.walk.now.core.now in
    let block = block_of c.args.block.now in
    let statement = statement_of c.statement-item.result in
    let tail = block_of (drop (c.loop-statement.statement-index + 1) c.args.block.now) in
    let along : Along program c.args.in_loop block (T.Then statement tail) c.reserve.new.self c.loop-statement.table (members c.new-own.result) (members c.loop-statement.own) c.loop-statement.exits =
    subst (λ rest. Along program c.args.in_loop block rest c.reserve.new.self c.loop-statement.table (members c.new-own.result) (members c.loop-statement.own) c.loop-statement.exits)
    (next-statement c.args.block.now c.loop-statement.statement-index c.statement-item.result c.loop-statement-test.true c.statement-item.is) c.loop-statement.invariant.along in
    let found : IsFound (statement_exits program statement) (statement_paths program statement) c.loop-statement.table c.put.new.self (members c.loop-statement.own) (members c.unite.new.self) c.in_ok-found.found =
    reserved (statement_exits program statement) (inner_paths program statement) c.loop-statement.table c.reserve-in-loop-statement.new.self c.walk_form.new.table c.in_ok-place.place
    (members c.new-inner.result) (members c.walk_form.new.raised) c.in_ok-found.found c.in_ok-place.ensures.room c.in_ok-place.ensures.number c.in_ok-found.ensures.found
    c.put.new.self (members c.loop-statement.own) (members c.unite.new.self) c.new-inner.ensures.empty c.in_ok-unite.ensures.united c.in_ok-put.ensures in
    record {
      along =
          subst (λ exits. Along program c.args.in_loop block tail c.reserve.new.self c.put.new.self (members c.new-own.result) (members c.unite.new.self) exits)
          (sym c.then-exits-in-loop-statement.ensures)
          (along-step program c.args.in_loop block c.reserve.new.self (members c.new-own.result) statement tail c.loop-statement.table (members c.loop-statement.own) c.loop-statement.exits along
          (sym c.may_stand.ensures ∙ c.if-not-may_stand.false) (not-false c.loop-statement.exits.normal c.if-not-exits.false) c.put.new.self (members c.unite.new.self) c.in_ok-found.found found c.in_ok-found.ensures.accepted);
      bound = c.unite.ensures.bound ∙ c.loop-statement.invariant.bound;
    }

-- a statement that raises nothing and has no block in it
pub walk_block-put_plain-requires : goal.walk_block-put_plain-requires
walk_block-put_plain-requires t c =
    let program = program_of c.args.walk.now.core.now in
    let statement = statement_of c.statement-item.result in
    has-room (statement_exits program statement) (inner_paths program statement) c.loop-statement.table c.reserve-in-loop-statement.new.self c.reserve-in-loop-statement.new.self c.in_ok-place.place
    (λ e. false) (λ e. false) c.in-Some.found c.in_ok-place.ensures.room c.in_ok-place.ensures.number
    (c.in-Some.ensures.found c.args.walk.now.core.now c.reserve-in-loop-statement.new.self (λ e. false))

pub walk_block-loop-statement-preserved-in-Some : goal.walk_block-loop-statement-preserved-in-Some
walk_block-loop-statement-preserved-in-Some t c =
    let program = program_of c.args.walk.now.core.now in
    let block = block_of c.args.block.now in
    let statement = statement_of c.statement-item.result in
    let tail = block_of (drop (c.loop-statement.statement-index + 1) c.args.block.now) in
    let along : Along program c.args.in_loop block (T.Then statement tail) c.reserve.new.self c.loop-statement.table (members c.new-own.result) (members c.loop-statement.own) c.loop-statement.exits =
    subst (λ rest. Along program c.args.in_loop block rest c.reserve.new.self c.loop-statement.table (members c.new-own.result) (members c.loop-statement.own) c.loop-statement.exits)
    (next-statement c.args.block.now c.loop-statement.statement-index c.statement-item.result c.loop-statement-test.true c.statement-item.is) c.loop-statement.invariant.along in
    let found : IsFound (statement_exits program statement) (statement_paths program statement) c.loop-statement.table c.put_plain.new.self (members c.loop-statement.own) (members c.loop-statement.own) c.in-Some.found =
    reserved (statement_exits program statement) (inner_paths program statement) c.loop-statement.table c.reserve-in-loop-statement.new.self c.reserve-in-loop-statement.new.self c.in_ok-place.place
    (λ e. false) (λ e. false) c.in-Some.found c.in_ok-place.ensures.room c.in_ok-place.ensures.number
    (c.in-Some.ensures.found c.args.walk.now.core.now c.reserve-in-loop-statement.new.self (λ e. false))
    c.put_plain.new.self (members c.loop-statement.own) (members c.loop-statement.own) (λ e. refl) (sum-none (members c.loop-statement.own)) c.put_plain.ensures in
    record {
      along =
          subst (λ exits. Along program c.args.in_loop block tail c.reserve.new.self c.put_plain.new.self (members c.new-own.result) (members c.loop-statement.own) exits)
          (sym c.then-exits.ensures)
          (along-step program c.args.in_loop block c.reserve.new.self (members c.new-own.result) statement tail c.loop-statement.table (members c.loop-statement.own) c.loop-statement.exits along
          (sym c.may_stand.ensures ∙ c.if-not-may_stand.false) (not-false c.loop-statement.exits.normal c.if-not-exits.false) c.put_plain.new.self (members c.loop-statement.own) c.in-Some.found found
          (c.in-Some.ensures.accepted c.args.walk.now.core.now c.args.in_loop));
      bound = c.loop-statement.invariant.bound;
    }

pub walk_block-put-requires-2 : goal.walk_block-put-requires-2
walk_block-put-requires-2 t c =
    let program = program_of c.args.walk.now.core.now in
    let block = block_of c.args.block.now in
    let along : Along program c.args.in_loop block T.Empty c.reserve.new.self c.loop-statement.table (members c.new-own.result) (members c.loop-statement.own) c.loop-statement.exits =
    subst (λ rest. Along program c.args.in_loop block (block_of rest) c.reserve.new.self c.loop-statement.table (members c.new-own.result) (members c.loop-statement.own) c.loop-statement.exits)
    (drop_all c.loop-statement.statement-index c.args.block.now c.loop-statement-test.false) c.loop-statement.invariant.along in
    let found : IsFound (block_exits program block) (rest_paths program block) c.reserve.new.self c.loop-statement.table (members c.new-own.result) (members c.loop-statement.own) c.loop-statement.exits =
    along-end program c.args.in_loop block c.reserve.new.self (members c.new-own.result) c.loop-statement.table (members c.loop-statement.own) c.loop-statement.exits along in
    has-room (block_exits program block) (rest_paths program block) c.args.table.now c.reserve.new.self c.loop-statement.table c.in_ok-at.at
    (members c.new-own.result) (members c.loop-statement.own) c.loop-statement.exits c.in_ok-at.ensures.room c.in_ok-at.ensures.number found

pub walk_block-returns-clause-found : goal.walk_block-returns-clause-found
walk_block-returns-clause-found t c =
    let program = program_of c.args.walk.now.core.now in
    let block = block_of c.args.block.now in
    let along : Along program c.args.in_loop block T.Empty c.reserve.new.self c.loop-statement.table (members c.new-own.result) (members c.loop-statement.own) c.loop-statement.exits =
    subst (λ rest. Along program c.args.in_loop block (block_of rest) c.reserve.new.self c.loop-statement.table (members c.new-own.result) (members c.loop-statement.own) c.loop-statement.exits)
    (drop_all c.loop-statement.statement-index c.args.block.now c.loop-statement-test.false) c.loop-statement.invariant.along in
    let found : IsFound (block_exits program block) (rest_paths program block) c.reserve.new.self c.loop-statement.table (members c.new-own.result) (members c.loop-statement.own) c.loop-statement.exits =
    along-end program c.args.in_loop block c.reserve.new.self (members c.new-own.result) c.loop-statement.table (members c.loop-statement.own) c.loop-statement.exits along in
    reserved (block_exits program block) (rest_paths program block) c.args.table.now c.reserve.new.self c.loop-statement.table c.in_ok-at.at
    (members c.new-own.result) (members c.loop-statement.own) c.loop-statement.exits c.in_ok-at.ensures.room c.in_ok-at.ensures.number found
    c.put-2.new.self (members c.args.raised.now) (members c.unite-2.new.self) c.new-own.ensures.empty c.in_ok-unite-2.ensures.united c.in_ok-put-2.ensures

-- statements without blocks
pub walk_form-returns-in_ok-go_on-in-Assign-clause-found : goal.walk_form-returns-in_ok-go_on-in-Assign-clause-found
walk_form-returns-in_ok-go_on-in-Assign-clause-found t c =
    let value = expression_of c.in-Assign.value in
    found-at (program_of c.args.walk.now.core.now) c.args.statement.now (T.Placed c.in-Assign.field-0 (T.Assign c.in-Assign.field-1 value)) (ap statement_of c.in-Assign.is)
    c.args.table.now c.args.table.now (members c.args.raised.now) (members c.go_on.new.raised) c.in_ok-go_on-in-Assign.field-0
    (c.in_ok-go_on-in-Assign.ensures.found (raises value) c.raises_of.ensures c.args.table.now)

pub walk_form-returns-in_ok-go_on-in-Clear-clause-found : goal.walk_form-returns-in_ok-go_on-in-Clear-clause-found
walk_form-returns-in_ok-go_on-in-Clear-clause-found t c =
    found-at (program_of c.args.walk.now.core.now) c.args.statement.now (T.Placed c.in-Clear.field-0 (T.Clear c.in-Clear.field-1)) (ap statement_of c.in-Clear.is)
    c.args.table.now c.args.table.now (members c.args.raised.now) (members c.go_on-in-Clear.new.raised) c.in_ok-go_on-in-Clear.field-0
    (c.in_ok-go_on-in-Clear.ensures.found [] (λ e. refl) c.args.table.now)

pub walk_form-returns-in_ok-go_on-in-Store-clause-found : goal.walk_form-returns-in_ok-go_on-in-Store-clause-found
walk_form-returns-in_ok-go_on-in-Store-clause-found t c =
    let index = expression_of c.in-Store.index in
    let value = expression_of c.in-Store.value in
    found-at (program_of c.args.walk.now.core.now) c.args.statement.now (T.Placed c.in-Store.field-0 (T.Store c.in-Store.field-1 c.in-Store.length index value)) (ap statement_of c.in-Store.is)
    c.args.table.now c.args.table.now (members c.args.raised.now) (members c.go_on-in-Store.new.raised) c.in_ok-go_on-in-Store.field-0
    (c.in_ok-go_on-in-Store.ensures.found (raises index ++ raises value ++ index_raises index c.in-Store.length) c.raises_of_store.ensures c.args.table.now)

pub walk_form-returns-in_ok-receive-in-Receive-clause-found : goal.walk_form-returns-in_ok-receive-in-Receive-clause-found
walk_form-returns-in_ok-receive-in-Receive-clause-found t c =
    found-at (program_of c.args.walk.now.core.now) c.args.statement.now (T.Placed c.in-Receive.field-0 (T.Receive c.in-Receive.field-1 c.in-Receive.field-2)) (ap statement_of c.in-Receive.is)
    c.args.table.now c.args.table.now (members c.args.raised.now) (members c.receive.new.raised) c.in_ok-receive-in-Receive.field-0
    (c.in_ok-receive-in-Receive.ensures.found c.args.table.now)

pub walk_form-returns-in_ok-go_on-in-Send-clause-found : goal.walk_form-returns-in_ok-go_on-in-Send-clause-found
walk_form-returns-in_ok-go_on-in-Send-clause-found t c =
    let value = expression_of c.in-Send.value in
    found-at (program_of c.args.walk.now.core.now) c.args.statement.now (T.Placed c.in-Send.field-0 (T.Send c.in-Send.field-1 value)) (ap statement_of c.in-Send.is)
    c.args.table.now c.args.table.now (members c.args.raised.now) (members c.go_on-in-Send.new.raised) c.in_ok-go_on-in-Send.field-0
    (c.in_ok-go_on-in-Send.ensures.found (raises value) c.raises_of-in-Send.ensures c.args.table.now)

pub walk_form-returns-in_ok-call-in-Call-clause-found : goal.walk_form-returns-in_ok-call-in-Call-clause-found
walk_form-returns-in_ok-call-in-Call-clause-found t c =
    let arguments = map expression_of c.deref.result.now in
    found-at (program_of c.args.walk.now.core.now) c.args.statement.now (T.Placed c.in-Call.field-0 (T.Call c.in-Call.callee arguments c.in-Call.field-3))
    (ap statement_of c.in-Call.is ∙ ap (λ list. T.Placed c.in-Call.field-0 (T.Call c.in-Call.callee (map expression_of list) c.in-Call.field-3)) (sym c.deref.ensures.value))
    c.args.table.now c.args.table.now (members c.args.raised.now) (members c.call.new.raised) c.in_ok-call-in-Call.field-0
    (c.in_ok-call-in-Call.ensures.found (flat_map raises arguments) c.raises_of_all.ensures c.args.table.now)

pub walk_form-returns-in_ok-leave-in-Leave-clause-found : goal.walk_form-returns-in_ok-leave-in-Leave-clause-found
walk_form-returns-in_ok-leave-in-Leave-clause-found t c =
    found-at (program_of c.args.walk.now.core.now) c.args.statement.now (T.Placed c.in-Leave.field-0 (T.Leave c.in-Leave.exit)) (ap statement_of c.in-Leave.is)
    c.args.table.now c.args.table.now (members c.args.raised.now) (members c.leave.new.raised) c.in_ok-leave-in-Leave.field-0
    (c.in_ok-leave-in-Leave.ensures.found c.args.table.now)

pub walk_form-returns-in_ok-give_back-in-Return-clause-found : goal.walk_form-returns-in_ok-give_back-in-Return-clause-found
walk_form-returns-in_ok-give_back-in-Return-clause-found t c =
    let value = some_expression_of c.in-Return.value in
    found-at (program_of c.args.walk.now.core.now) c.args.statement.now (T.Placed c.in-Return.field-0 (T.ReturnWith value)) (ap statement_of c.in-Return.is)
    c.args.table.now c.args.table.now (members c.args.raised.now) (members c.give_back.new.raised) c.in_ok-give_back-in-Return.field-0
    (return-found (program_of c.args.walk.now.core.now) c.in-Return.field-0 value c.args.table.now c.args.table.now (members c.args.raised.now) (members c.give_back.new.raised) c.in_ok-give_back-in-Return.field-0
    (c.in_ok-give_back-in-Return.ensures.found (raises_some value) c.raises_of_some.ensures c.args.table.now))

-- `if`
pub walk_form-returns-in_ok-no-in-If-clause-found : goal.walk_form-returns-in_ok-no-in-If-clause-found
walk_form-returns-in_ok-no-in-If-clause-found t c =
    let program = program_of c.args.walk.now.core.now in
    let test = expression_of c.in-If.condition in
    let then_block = block_of c.deref-in-If.result.now in
    let else_block = block_of c.deref-in-If-2.result.now in
    found-at program c.args.statement.now (T.Placed c.in-If.field-0 (T.If test then_block else_block))
    (tree-if c.args.statement.now c.in-If.field-0 c.in-If.condition c.in-If.then_block c.in-If.else_block c.deref-in-If.result.now c.deref-in-If-2.result.now c.in-If.is c.deref-in-If.ensures.value c.deref-in-If-2.ensures.value)
    c.args.table.now c.walk_block-in-If.new.table (members c.args.raised.now) (members c.walk_block-in-If.new.raised) c.join-in-If.result
    (if-found program c.in-If.field-0 test then_block else_block c.args.table.now c.walk_block.new.table c.walk_block-in-If.new.table
    (members c.args.raised.now) (members c.test.new.raised) (members c.walk_block.new.raised) (members c.walk_block-in-If.new.raised)
    c.in_ok-tested-in-If.tested c.in_ok-yes-in-If.yes c.in_ok-no-in-If.no c.join.result c.join-in-If.result
    (c.in_ok-tested-in-If.ensures.found c.args.table.now) c.in_ok-yes-in-If.ensures.found c.in_ok-no-in-If.ensures.found c.join.ensures c.join-in-If.ensures)

pub walk_form-returns-in_ok-no-in-If-clause-accepted : goal.walk_form-returns-in_ok-no-in-If-clause-accepted
walk_form-returns-in_ok-no-in-If-clause-accepted t c =
    let program = program_of c.args.walk.now.core.now in
    let then_block = block_of c.deref-in-If.result.now in
    let else_block = block_of c.deref-in-If-2.result.now in
    faults-at program c.args.statement.now (T.Placed c.in-If.field-0 (T.If (expression_of c.in-If.condition) then_block else_block))
    (tree-if c.args.statement.now c.in-If.field-0 c.in-If.condition c.in-If.then_block c.in-If.else_block c.deref-in-If.result.now c.deref-in-If-2.result.now c.in-If.is c.deref-in-If.ensures.value c.deref-in-If-2.ensures.value)
    c.args.in_loop
    (none-both (block_faults program c.args.in_loop true then_block) (block_faults program c.args.in_loop true else_block) c.in_ok-yes-in-If.ensures.accepted c.in_ok-no-in-If.ensures.accepted)

pub walk_form-returns-in_err-yes-in-If-clause-first_fault : goal.walk_form-returns-in_err-yes-in-If-clause-first_fault
walk_form-returns-in_err-yes-in-If-clause-first_fault t c =
    let program = program_of c.args.walk.now.core.now in
    let first : IfRefused (IsFirstEndFault (inner_faults program c.args.in_loop (statement_of c.args.statement.now))) c.in_err-yes-in-If.field-0.0 =
    first-at program c.args.statement.now (T.Placed c.in-If.field-0 (T.If (expression_of c.in-If.condition) (block_of c.deref-in-If.result.now) (block_of c.in-If.else_block.items)))
    (tree-if c.args.statement.now c.in-If.field-0 c.in-If.condition c.in-If.then_block c.in-If.else_block c.deref-in-If.result.now c.in-If.else_block.items c.in-If.is c.deref-in-If.ensures.value refl)
    c.args.in_loop c.in_err-yes-in-If.field-0.0
    (first-left (block_faults program c.args.in_loop true (block_of c.deref-in-If.result.now)) (block_faults program c.args.in_loop true (block_of c.in-If.else_block.items)) c.in_err-yes-in-If.field-0.0
    c.in_err-yes-in-If.ensures.first_fault) in
    search (rules, first)

pub walk_form-returns-in_err-no-in-If-clause-first_fault : goal.walk_form-returns-in_err-no-in-If-clause-first_fault
walk_form-returns-in_err-no-in-If-clause-first_fault t c =
    let program = program_of c.args.walk.now.core.now in
    let then_block = block_of c.deref-in-If.result.now in
    let else_block = block_of c.deref-in-If-2.result.now in
    let first : IfRefused (IsFirstEndFault (inner_faults program c.args.in_loop (statement_of c.args.statement.now))) c.in_err-no-in-If.field-0.0 =
    first-at program c.args.statement.now (T.Placed c.in-If.field-0 (T.If (expression_of c.in-If.condition) then_block else_block))
    (tree-if c.args.statement.now c.in-If.field-0 c.in-If.condition c.in-If.then_block c.in-If.else_block c.deref-in-If.result.now c.deref-in-If-2.result.now c.in-If.is c.deref-in-If.ensures.value c.deref-in-If-2.ensures.value)
    c.args.in_loop c.in_err-no-in-If.field-0.0
    (first-right (block_faults program c.args.in_loop true then_block) (block_faults program c.args.in_loop true else_block) c.in_err-no-in-If.field-0.0
    c.in_ok-yes-in-If.ensures.accepted c.in_err-no-in-If.ensures.first_fault) in
    search (rules, first)

-- `while`
pub walk_form-returns-in_ok-body-in-While-clause-found : goal.walk_form-returns-in_ok-body-in-While-clause-found
walk_form-returns-in_ok-body-in-While-clause-found t c =
    let program = program_of c.args.walk.now.core.now in
    let test = expression_of c.in-While.condition in
    let body = block_of c.deref-in-While.result.now in
    found-at program c.args.statement.now (T.Placed c.in-While.field-0 (T.While c.in-While.field-1 test body))
    (tree-while c.args.statement.now c.in-While.field-0 c.in-While.field-1 c.in-While.condition c.in-While.body c.deref-in-While.result.now c.in-While.is c.deref-in-While.ensures.value)
    c.args.table.now c.walk_block-in-While.new.table (members c.args.raised.now) (members c.walk_block-in-While.new.raised) c.of_loop.result
    (while-found program c.in-While.field-0 c.in-While.field-1 test body c.args.table.now c.walk_block-in-While.new.table
    (members c.args.raised.now) (members c.test-in-While.new.raised) (members c.walk_block-in-While.new.raised)
    c.in_ok-tested-in-While.tested c.in_ok-body-in-While.body c.join-in-While.result c.of_loop.result
    (c.in_ok-tested-in-While.ensures.found c.args.table.now) c.in_ok-body-in-While.ensures.found c.join-in-While.ensures c.of_loop.ensures)

pub walk_form-returns-in_ok-body-in-While-clause-accepted : goal.walk_form-returns-in_ok-body-in-While-clause-accepted
walk_form-returns-in_ok-body-in-While-clause-accepted t c =
    faults-at (program_of c.args.walk.now.core.now) c.args.statement.now (T.Placed c.in-While.field-0 (T.While c.in-While.field-1 (expression_of c.in-While.condition) (block_of c.deref-in-While.result.now)))
    (tree-while c.args.statement.now c.in-While.field-0 c.in-While.field-1 c.in-While.condition c.in-While.body c.deref-in-While.result.now c.in-While.is c.deref-in-While.ensures.value)
    c.args.in_loop c.in_ok-body-in-While.ensures.accepted

pub walk_form-returns-in_err-body-in-While-clause-first_fault : goal.walk_form-returns-in_err-body-in-While-clause-first_fault
walk_form-returns-in_err-body-in-While-clause-first_fault t c =
    let program = program_of c.args.walk.now.core.now in
    let first : IfRefused (IsFirstEndFault (inner_faults program c.args.in_loop (statement_of c.args.statement.now))) c.in_err-body-in-While.field-0.0 =
    first-at program c.args.statement.now (T.Placed c.in-While.field-0 (T.While c.in-While.field-1 (expression_of c.in-While.condition) (block_of c.deref-in-While.result.now)))
    (tree-while c.args.statement.now c.in-While.field-0 c.in-While.field-1 c.in-While.condition c.in-While.body c.deref-in-While.result.now c.in-While.is c.deref-in-While.ensures.value)
    c.args.in_loop c.in_err-body-in-While.field-0.0 c.in_err-body-in-While.ensures.first_fault in
    search (rules, first)

-- `try`
pub walk_form-returns-in_ok-unite-in-Try-clause-found : goal.walk_form-returns-in_ok-unite-in-Try-clause-found
walk_form-returns-in_ok-unite-in-Try-clause-found t c =
    let program = program_of c.args.walk.now.core.now in
    let block = block_of c.deref-in-Try.result.now in
    let handlers = handlers_of c.deref-in-Try-2.result.now in
    found-at program c.args.statement.now (T.Placed c.in-Try.field-0 (T.Try block handlers))
    (tree-try c.args.statement.now c.in-Try.field-0 c.in-Try.block c.in-Try.handlers c.deref-in-Try.result.now c.deref-in-Try-2.result.now c.in-Try.is c.deref-in-Try.ensures.value c.deref-in-Try-2.ensures.value)
    c.args.table.now c.walk_handlers.new.table (members c.args.raised.now) (members c.unite.new.self) c.join-in-Try.result
    (try-is-found program c.in-Try.field-0 block handlers c.args.table.now c.walk_block-in-Try.new.table (members c.new-inner.result) (members c.walk_block-in-Try.new.raised) c.in_ok-tried-in-Try.tried
    c.new-inner.ensures.empty c.in_ok-tried-in-Try.ensures.found
    c.walk_handlers.new.table (members c.walk_handlers.new.inner) (members c.args.raised.now) (members c.walk_handlers.new.raised) (members c.unite.new.self)
    c.in_ok-handled-in-Try.handled c.with.result c.join-in-Try.result c.summary.result
    c.in_ok-handled-in-Try.ensures.found c.in_ok-handled-in-Try.ensures.left c.in_ok-unite-in-Try.ensures.united c.summary.ensures c.with.ensures c.join-in-Try.ensures)

pub walk_form-returns-in_ok-unite-in-Try-clause-accepted : goal.walk_form-returns-in_ok-unite-in-Try-clause-accepted
walk_form-returns-in_ok-unite-in-Try-clause-accepted t c =
    let program = program_of c.args.walk.now.core.now in
    let block = block_of c.deref-in-Try.result.now in
    let handlers = handlers_of c.deref-in-Try-2.result.now in
    faults-at program c.args.statement.now (T.Placed c.in-Try.field-0 (T.Try block handlers))
    (tree-try c.args.statement.now c.in-Try.field-0 c.in-Try.block c.in-Try.handlers c.deref-in-Try.result.now c.deref-in-Try-2.result.now c.in-Try.is c.deref-in-Try.ensures.value c.deref-in-Try-2.ensures.value)
    c.args.in_loop
    (none-both (block_faults program c.args.in_loop true block) (handlers_faults program c.args.in_loop (block_exits program block) handlers) c.in_ok-tried-in-Try.ensures.accepted
    (c.in_ok-handled-in-Try.ensures.accepted (block_exits program block)
    (tried-throws program c.in-Try.field-0 block handlers c.args.table.now c.walk_block-in-Try.new.table (members c.new-inner.result) (members c.walk_block-in-Try.new.raised) c.in_ok-tried-in-Try.tried
    c.new-inner.ensures.empty c.in_ok-tried-in-Try.ensures.found)))

pub walk_form-returns-in_err-tried-in-Try-clause-first_fault : goal.walk_form-returns-in_err-tried-in-Try-clause-first_fault
walk_form-returns-in_err-tried-in-Try-clause-first_fault t c =
    let program = program_of c.args.walk.now.core.now in
    let block = block_of c.deref-in-Try.result.now in
    let handlers = handlers_of c.in-Try.handlers.items in
    let first : IfRefused (IsFirstEndFault (inner_faults program c.args.in_loop (statement_of c.args.statement.now))) c.in_err-tried-in-Try.field-0.0 =
    first-at program c.args.statement.now (T.Placed c.in-Try.field-0 (T.Try block handlers))
    (tree-try c.args.statement.now c.in-Try.field-0 c.in-Try.block c.in-Try.handlers c.deref-in-Try.result.now c.in-Try.handlers.items c.in-Try.is c.deref-in-Try.ensures.value refl)
    c.args.in_loop c.in_err-tried-in-Try.field-0.0
    (first-left (block_faults program c.args.in_loop true block) (handlers_faults program c.args.in_loop (block_exits program block) handlers) c.in_err-tried-in-Try.field-0.0
    c.in_err-tried-in-Try.ensures.first_fault) in
    search (rules, first)

pub walk_form-returns-in_err-handled-in-Try-clause-first_fault : goal.walk_form-returns-in_err-handled-in-Try-clause-first_fault
walk_form-returns-in_err-handled-in-Try-clause-first_fault t c =
    let program = program_of c.args.walk.now.core.now in
    let block = block_of c.deref-in-Try.result.now in
    let handlers = handlers_of c.deref-in-Try-2.result.now in
    let first : IfRefused (IsFirstEndFault (inner_faults program c.args.in_loop (statement_of c.args.statement.now))) c.in_err-handled-in-Try.field-0.0 =
    first-at program c.args.statement.now (T.Placed c.in-Try.field-0 (T.Try block handlers))
    (tree-try c.args.statement.now c.in-Try.field-0 c.in-Try.block c.in-Try.handlers c.deref-in-Try.result.now c.deref-in-Try-2.result.now c.in-Try.is c.deref-in-Try.ensures.value c.deref-in-Try-2.ensures.value)
    c.args.in_loop c.in_err-handled-in-Try.field-0.0
    (first-right (block_faults program c.args.in_loop true block) (handlers_faults program c.args.in_loop (block_exits program block) handlers) c.in_err-handled-in-Try.field-0.0
    c.in_ok-tried-in-Try.ensures.accepted
    (c.in_err-handled-in-Try.ensures.first_fault (block_exits program block)
    (tried-throws program c.in-Try.field-0 block handlers c.args.table.now c.walk_block-in-Try.new.table (members c.new-inner.result) (members c.walk_block-in-Try.new.raised) c.in_ok-tried-in-Try.tried
    c.new-inner.ensures.empty c.in_ok-tried-in-Try.ensures.found))) in
    search (rules, first)

-- a block in braces
pub walk_form-returns-in-Nested-clause-found : goal.walk_form-returns-in-Nested-clause-found
walk_form-returns-in-Nested-clause-found t c =
    let program = program_of c.args.walk.now.core.now in
    let block = block_of c.deref-in-Nested.result.now in
    IfOk-weaker c.walk_block-in-Nested.result
    (λ x. IsFound (block_exits program block) (block_paths program block) c.args.table.now c.walk_block-in-Nested.new.table (members c.args.raised.now) (members c.walk_block-in-Nested.new.raised) x)
    (λ x. IsFound (statement_exits program (statement_of c.args.statement.now)) (inner_paths program (statement_of c.args.statement.now)) c.args.table.now c.walk_block-in-Nested.new.table (members c.args.raised.now) (members c.walk_block-in-Nested.new.raised) x)
    (λ x found.
    found-at program c.args.statement.now (T.Placed c.in-Nested.field-0 (T.Nested block))
    (tree-nested c.args.statement.now c.in-Nested.field-0 c.in-Nested.block c.deref-in-Nested.result.now c.in-Nested.is c.deref-in-Nested.ensures.value)
    c.args.table.now c.walk_block-in-Nested.new.table (members c.args.raised.now) (members c.walk_block-in-Nested.new.raised) x found)
    c.walk_block-in-Nested.ensures.found

pub walk_form-returns-in-Nested-clause-accepted : goal.walk_form-returns-in-Nested-clause-accepted
walk_form-returns-in-Nested-clause-accepted t c =
    let program = program_of c.args.walk.now.core.now in
    let block = block_of c.deref-in-Nested.result.now in
    on_ok_weaker c.walk_block-in-Nested.result
    (λ (none : block_faults program c.args.in_loop true block ≡ []).
    faults-at program c.args.statement.now (T.Placed c.in-Nested.field-0 (T.Nested block))
    (tree-nested c.args.statement.now c.in-Nested.field-0 c.in-Nested.block c.deref-in-Nested.result.now c.in-Nested.is c.deref-in-Nested.ensures.value)
    c.args.in_loop none)
    c.walk_block-in-Nested.ensures.accepted

pub walk_form-returns-in-Nested-clause-first_fault : goal.walk_form-returns-in-Nested-clause-first_fault
walk_form-returns-in-Nested-clause-first_fault t c =
    let program = program_of c.args.walk.now.core.now in
    let block = block_of c.deref-in-Nested.result.now in
    IfErr-weaker c.walk_block-in-Nested.result
    (λ fault. IfRefused (IsFirstEndFault (block_faults program c.args.in_loop true block)) fault)
    (λ fault. IfRefused (IsFirstEndFault (inner_faults program c.args.in_loop (statement_of c.args.statement.now))) fault)
    (λ fault first.
    first-at program c.args.statement.now (T.Placed c.in-Nested.field-0 (T.Nested block))
    (tree-nested c.args.statement.now c.in-Nested.field-0 c.in-Nested.block c.deref-in-Nested.result.now c.in-Nested.is c.deref-in-Nested.ensures.value)
    c.args.in_loop fault first)
    c.walk_block-in-Nested.ensures.first_fault

-- along handlers
pub walk_handlers-loop-handler-init : goal.walk_handlers-loop-handler-init
walk_handlers-loop-handler-init t c =
    record {
      along = handling-begin (program_of c.args.walk.now.core.now) c.args.in_loop (handlers_of c.args.handlers.now) c.args.table.now (members c.args.raised.now) (members c.args.inner.now)
          c.raise_only-exits.result c.raise_only-exits.ensures;
      bound = refl;
      inner_bound = refl;
    }

pub walk_handlers-returns-then-not-remove-clause-first_fault : goal.walk_handlers-returns-then-not-remove-clause-first_fault
walk_handlers-returns-then-not-remove-clause-first_fault t c =
    let program = program_of c.args.walk.now.core.now in
    let handlers = handlers_of c.args.handlers.now in
    let handler = c.handler-item.result in
    let body = block_of handler.body.items in
    let tail = handlers_of (drop (c.loop-handler.handler-index + 1) c.args.handlers.now) in
    let along : Handling program c.args.in_loop handlers (T.Catch handler.at handler.exception body tail) c.args.table.now c.loop-handler.table (members c.args.raised.now) (members c.loop-handler.raised) (members c.args.inner.now) (members c.loop-handler.inner) c.loop-handler.exits =
    subst (λ rest. Handling program c.args.in_loop handlers rest c.args.table.now c.loop-handler.table (members c.args.raised.now) (members c.loop-handler.raised) (members c.args.inner.now) (members c.loop-handler.inner) c.loop-handler.exits)
    (next-handler c.args.handlers.now c.loop-handler.handler-index handler handler.body.items c.loop-handler-test.true c.handler-item.is refl) c.loop-handler.invariant.along in
    λ ends are.
    subst (λ fault. IfRefused (IsFirstEndFault (handlers_faults program c.args.in_loop ends handlers)) fault) (sym c.refuse.ensures)
    (never-raised program c.args.in_loop handlers c.args.table.now (members c.args.raised.now) (members c.args.inner.now) handler.at handler.exception body tail c.loop-handler.table (members c.loop-handler.raised) (members c.loop-handler.inner) (members c.remove.new.self) c.loop-handler.exits along
    c.remove.ensures.left (sym c.remove.ensures.there ∙ c.if-not-remove.true) ends are)

pub walk_handlers-returns-in_err-found-clause-first_fault : goal.walk_handlers-returns-in_err-found-clause-first_fault
walk_handlers-returns-in_err-found-clause-first_fault t c =
    let program = program_of c.args.walk.now.core.now in
    let handlers = handlers_of c.args.handlers.now in
    let handler = c.handler-item.result in
    let body = block_of c.deref.result.now in
    let tail = handlers_of (drop (c.loop-handler.handler-index + 1) c.args.handlers.now) in
    let along : Handling program c.args.in_loop handlers (T.Catch handler.at handler.exception body tail) c.args.table.now c.loop-handler.table (members c.args.raised.now) (members c.loop-handler.raised) (members c.args.inner.now) (members c.loop-handler.inner) c.loop-handler.exits =
    subst (λ rest. Handling program c.args.in_loop handlers rest c.args.table.now c.loop-handler.table (members c.args.raised.now) (members c.loop-handler.raised) (members c.args.inner.now) (members c.loop-handler.inner) c.loop-handler.exits)
    (next-handler c.args.handlers.now c.loop-handler.handler-index handler c.deref.result.now c.loop-handler-test.true c.handler-item.is c.deref.ensures.value) c.loop-handler.invariant.along in
    let first : (ends : List Exit) → AreThrown (members c.args.inner.now) ends → IfRefused (IsFirstEndFault (handlers_faults program c.args.in_loop ends handlers)) c.in_err-found.field-0.0 =
    in-handler program c.args.in_loop handlers c.args.table.now (members c.args.raised.now) (members c.args.inner.now) handler.at handler.exception body tail c.loop-handler.table (members c.loop-handler.raised) (members c.loop-handler.inner) (members c.remove.new.self) c.loop-handler.exits along
    c.remove.ensures.left (sym c.remove.ensures.there ∙ c.if-not-remove.false) c.in_err-found.field-0.0 c.in_err-found.ensures.first_fault in
    search (rules, first)

pub walk_handlers-loop-handler-preserved : goal.walk_handlers-loop-handler-preserved
walk_handlers-loop-handler-preserved t c =
    let program = program_of c.args.walk.now.core.now in
    let handlers = handlers_of c.args.handlers.now in
    let handler = c.handler-item.result in
    let body = block_of c.deref.result.now in
    let tail = handlers_of (drop (c.loop-handler.handler-index + 1) c.args.handlers.now) in
    let along : Handling program c.args.in_loop handlers (T.Catch handler.at handler.exception body tail) c.args.table.now c.loop-handler.table (members c.args.raised.now) (members c.loop-handler.raised) (members c.args.inner.now) (members c.loop-handler.inner) c.loop-handler.exits =
    subst (λ rest. Handling program c.args.in_loop handlers rest c.args.table.now c.loop-handler.table (members c.args.raised.now) (members c.loop-handler.raised) (members c.args.inner.now) (members c.loop-handler.inner) c.loop-handler.exits)
    (next-handler c.args.handlers.now c.loop-handler.handler-index handler c.deref.result.now c.loop-handler-test.true c.handler-item.is c.deref.ensures.value) c.loop-handler.invariant.along in
    record {
      along =
          subst (λ exits. Handling program c.args.in_loop handlers tail c.args.table.now c.walk_block.new.table (members c.args.raised.now) (members c.walk_block.new.raised) (members c.args.inner.now) (members c.remove.new.self) exits)
          (sym c.join-exits.ensures)
          (handling-step program c.args.in_loop handlers c.args.table.now (members c.args.raised.now) (members c.args.inner.now) handler.at handler.exception body tail c.loop-handler.table (members c.loop-handler.raised) (members c.loop-handler.inner) (members c.remove.new.self) c.loop-handler.exits along
          c.remove.ensures.left (sym c.remove.ensures.there ∙ c.if-not-remove.false) c.walk_block.new.table (members c.walk_block.new.raised) c.in_ok-found.found c.in_ok-found.ensures.found c.in_ok-found.ensures.accepted);
      bound = c.walk_block.ensures.bound ∙ c.loop-handler.invariant.bound;
      inner_bound = c.remove.ensures.bound ∙ c.loop-handler.invariant.inner_bound;
    }

-- what fits, and is smaller
pub walk_form-walk_block-requires : goal.walk_form-walk_block-requires
walk_form-walk_block-requires t c =
    let tree = tree-if c.args.statement.now c.in-If.field-0 c.in-If.condition c.in-If.then_block c.in-If.else_block c.deref-in-If.result.now c.in-If.else_block.items c.in-If.is c.deref-in-If.ensures.value refl in (
      omega (arith, ap statement_nodes tree),
      (yes-fits (program_of c.args.walk.now.core.now) c.args.statement.now c.in-If.field-0 (expression_of c.in-If.condition) (block_of c.deref-in-If.result.now) (block_of c.in-If.else_block.items) tree c.requires.fits, c.test.ensures.bound ∙ c.requires.bound),
    )

pub walk_form-walk_block-requires-in-If : goal.walk_form-walk_block-requires-in-If
walk_form-walk_block-requires-in-If t c =
    let tree = tree-if c.args.statement.now c.in-If.field-0 c.in-If.condition c.in-If.then_block c.in-If.else_block c.deref-in-If.result.now c.deref-in-If-2.result.now c.in-If.is c.deref-in-If.ensures.value c.deref-in-If-2.ensures.value in (
      omega (arith, ap statement_nodes tree),
      (no-fits (program_of c.args.walk.now.core.now) c.args.statement.now c.in-If.field-0 (expression_of c.in-If.condition) (block_of c.deref-in-If.result.now) (block_of c.deref-in-If-2.result.now) tree c.requires.fits, c.walk_block.ensures.bound ∙ (c.test.ensures.bound ∙ c.requires.bound)),
    )

pub walk_form-walk_block-requires-in-While : goal.walk_form-walk_block-requires-in-While
walk_form-walk_block-requires-in-While t c =
    let tree = tree-while c.args.statement.now c.in-While.field-0 c.in-While.field-1 c.in-While.condition c.in-While.body c.deref-in-While.result.now c.in-While.is c.deref-in-While.ensures.value in (
      omega (arith, ap statement_nodes tree),
      (body-fits (program_of c.args.walk.now.core.now) c.args.statement.now c.in-While.field-0 c.in-While.field-1 (expression_of c.in-While.condition) (block_of c.deref-in-While.result.now) tree c.requires.fits, c.test-in-While.ensures.bound ∙ c.requires.bound),
    )

pub walk_form-walk_block-requires-in-Try : goal.walk_form-walk_block-requires-in-Try
walk_form-walk_block-requires-in-Try t c =
    let tree = tree-try c.args.statement.now c.in-Try.field-0 c.in-Try.block c.in-Try.handlers c.deref-in-Try.result.now c.in-Try.handlers.items c.in-Try.is c.deref-in-Try.ensures.value refl in (
      omega (arith, ap statement_nodes tree),
      (tried-fits (program_of c.args.walk.now.core.now) c.args.statement.now c.in-Try.field-0 (block_of c.deref-in-Try.result.now) (handlers_of c.in-Try.handlers.items) tree c.requires.fits, c.new-inner.ensures.bound),
    )

pub walk_form-walk_handlers-requires : goal.walk_form-walk_handlers-requires
walk_form-walk_handlers-requires t c =
    let tree = tree-try c.args.statement.now c.in-Try.field-0 c.in-Try.block c.in-Try.handlers c.deref-in-Try.result.now c.deref-in-Try-2.result.now c.in-Try.is c.deref-in-Try.ensures.value c.deref-in-Try-2.ensures.value in (
      omega (arith, ap statement_nodes tree),
      (handlers-fit (program_of c.args.walk.now.core.now) c.args.statement.now c.in-Try.field-0 (block_of c.deref-in-Try.result.now) (handlers_of c.deref-in-Try-2.result.now) tree c.requires.fits, c.requires.bound),
    )

pub walk_form-walk_block-requires-in-Nested : goal.walk_form-walk_block-requires-in-Nested
walk_form-walk_block-requires-in-Nested t c =
    let tree = tree-nested c.args.statement.now c.in-Nested.field-0 c.in-Nested.block c.deref-in-Nested.result.now c.in-Nested.is c.deref-in-Nested.ensures.value in (
      omega (arith, ap statement_nodes tree),
      (nested-fits (program_of c.args.walk.now.core.now) c.args.statement.now c.in-Nested.field-0 (block_of c.deref-in-Nested.result.now) tree c.requires.fits, c.requires.bound),
    )

pub walk_block-walk_form-requires : goal.walk_block-walk_form-requires
walk_block-walk_form-requires t c = (
  omega (arith, statement-within c.args.block.now c.loop-statement.statement-index c.statement-item.result c.loop-statement-test.true c.statement-item.is),
  (
    statement-fits (program_of c.args.walk.now.core.now) c.args.block.now c.loop-statement.statement-index c.statement-item.result
        c.loop-statement-test.true c.statement-item.is c.requires.fits,
    c.new-inner.ensures.bound,
  ),
)

pub walk_handlers-walk_block-requires : goal.walk_handlers-walk_block-requires
walk_handlers-walk_block-requires t c = (
  omega (arith, handler-within c.args.handlers.now c.loop-handler.handler-index c.handler-item.result c.deref.result.now c.loop-handler-test.true c.handler-item.is c.deref.ensures.value),
  (
    handler-fits (program_of c.args.walk.now.core.now) c.args.handlers.now c.loop-handler.handler-index c.handler-item.result c.deref.result.now
        c.loop-handler-test.true c.handler-item.is c.deref.ensures.value c.requires.fits,
    c.loop-handler.invariant.bound ∙ c.requires.bound,
  ),
)
