use Rattle.std.proofs.Common.{ap}
use Rattle.std.proofs.lemmas.Result.{on_ok_weaker}
use Rattle.resolved.specs.declared.expression.Expression as E
use Rattle.resolved.specs.Labelled.{Join, value_label}
use Rattle.resolved.specs.TreeOf.{expression_of}
use Rattle.constraints.specs.LeftSides.{scope_of}
use Rattle.constraints.proofs.Joined.{both}
use Rattle.constraints.proofs.table.Table.+add_value.Goals as goal

pub returns-in_ok-add_value-in-Binary : goal.returns-in_ok-add_value-in-Binary
returns-in_ok-add_value-in-Binary t c =
    let core = c.args.self.now.core.now in
    let table = c.args.self.now.core.now.labels in
    let value : E.Expression → Join = λ e. value_label (scope_of core c.args.procedure) (expression_of e) in
    on_ok_weaker c.add_value-in-Binary-2.result
    (λ second. both core table (value c.args.expression.now) (value c.in-Binary.operands.value.0) (value c.in-Binary.operands.value.1)
    (value c.deref-in-Binary.result.now.0) (value c.deref-in-Binary-2.result.now.1) c.args.left.now.items c.add_value-in-Binary.new.left.items c.add_value-in-Binary-2.new.left.items
    (ap value c.in-Binary.is) (ap (λ pair. value pair.0) c.deref-in-Binary.ensures) (ap (λ pair. value pair.1) c.deref-in-Binary-2.ensures) c.in_ok-add_value-in-Binary.ensures second)
    c.add_value-in-Binary-2.ensures

pub returns-in_ok-add_value-in-Short : goal.returns-in_ok-add_value-in-Short
returns-in_ok-add_value-in-Short t c =
    let core = c.args.self.now.core.now in
    let table = c.args.self.now.core.now.labels in
    let value : E.Expression → Join = λ e. value_label (scope_of core c.args.procedure) (expression_of e) in
    on_ok_weaker c.add_value-in-Short-2.result
    (λ second. both core table (value c.args.expression.now) (value c.in-Short.operands.value.0) (value c.in-Short.operands.value.1)
    (value c.deref-in-Short.result.now.0) (value c.deref-in-Short-2.result.now.1) c.args.left.now.items c.add_value-in-Short.new.left.items c.add_value-in-Short-2.new.left.items
    (ap value c.in-Short.is) (ap (λ pair. value pair.0) c.deref-in-Short.ensures) (ap (λ pair. value pair.1) c.deref-in-Short-2.ensures) c.in_ok-add_value-in-Short.ensures second)
    c.add_value-in-Short-2.ensures
