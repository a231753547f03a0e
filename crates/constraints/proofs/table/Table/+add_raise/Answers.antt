use Rattle.std.proofs.Common.{◌≡◌, ap, sym, ◌∙◌, ◌&&◌, true, false}
use Rattle.std.proofs.lemmas.Result.{on_ok_weaker}
use Rattle.resolved.specs.declared.expression.Expression as E
use Rattle.resolved.specs.Exits.{divisor_can_raise, is_division, raises}
use Rattle.resolved.specs.Labelled.{Join, any_of, value_label}
use Rattle.resolved.specs.TreeOf.{expression_of}
use Rattle.gathering.specs.Walk.{raise_atoms}
use Rattle.constraints.specs.LeftSides.{scope_of}
use Rattle.constraints.proofs.Joined.{both, binary-atoms, binary-true, binary-either, short-atoms, short-true}
use Rattle.constraints.proofs.table.Table.+add_raise.Goals as goal

pub returns-then-can_divide_by_zero-clause-joined : goal.returns-then-can_divide_by_zero-clause-joined
returns-then-can_divide_by_zero-clause-joined t c =
    let core = c.args.self.now.core.now in
    let table = c.args.self.now.core.now.labels in
    let scope = scope_of core c.args.procedure in
    let value : E.Expression → Join = λ e. value_label scope (expression_of e) in
    let atoms : E.Expression → Join = λ e. raise_atoms scope (expression_of e) in
    let test : (is_division c.in-Binary.operator && divisor_can_raise (expression_of c.in-Binary.operands.value.1)) ≡ true =
    ap (λ x. is_division c.in-Binary.operator && divisor_can_raise (expression_of x.1)) (sym c.deref-in-Binary-2.ensures)
    ∙ (sym c.can_divide_by_zero.ensures ∙ c.if-can_divide_by_zero.true) in
    both core table (atoms c.args.expression.now) (atoms c.in-Binary.operands.value.0) (value c.in-Binary.operands.value.1)
    (atoms c.deref-in-Binary.result.now.0) (value c.deref-then-can_divide_by_zero.result.now.1) c.args.left.now.items c.add_raise-in-Binary.new.left.items c.add_value-then-can_divide_by_zero.new.left.items
    (ap atoms c.in-Binary.is ∙ binary-atoms scope c.in-Binary.operator (expression_of c.in-Binary.operands.value.0) (expression_of c.in-Binary.operands.value.1) true test)
    (ap (λ pair. atoms pair.0) c.deref-in-Binary.ensures) (ap (λ pair. value pair.1) c.deref-then-can_divide_by_zero.ensures) c.in_ok-raised-in-Binary.ensures.joined c.in_ok-add_value-in-Binary.ensures

pub returns-then-can_divide_by_zero-clause-raises : goal.returns-then-can_divide_by_zero-clause-raises
returns-then-can_divide_by_zero-clause-raises t c =
    let test : (is_division c.in-Binary.operator && divisor_can_raise (expression_of c.in-Binary.operands.value.1)) ≡ true =
    ap (λ x. is_division c.in-Binary.operator && divisor_can_raise (expression_of x.1)) (sym c.deref-in-Binary-2.ensures)
    ∙ (sym c.can_divide_by_zero.ensures ∙ c.if-can_divide_by_zero.true) in
    binary-true c.in-Binary.operator (expression_of c.in-Binary.operands.value.0) (expression_of c.in-Binary.operands.value.1) test ∙ ap (λ x. any_of (raises (expression_of x))) (sym c.in-Binary.is)

pub returns-in_ok-again-in-Binary-clause-joined : goal.returns-in_ok-again-in-Binary-clause-joined
returns-in_ok-again-in-Binary-clause-joined t c =
    let core = c.args.self.now.core.now in
    let table = c.args.self.now.core.now.labels in
    let scope = scope_of core c.args.procedure in
    let value : E.Expression → Join = λ e. value_label scope (expression_of e) in
    let atoms : E.Expression → Join = λ e. raise_atoms scope (expression_of e) in
    let test : (is_division c.in-Binary.operator && divisor_can_raise (expression_of c.in-Binary.operands.value.1)) ≡ false =
    ap (λ x. is_division c.in-Binary.operator && divisor_can_raise (expression_of x.1)) (sym c.deref-in-Binary-2.ensures)
    ∙ (sym c.can_divide_by_zero.ensures ∙ c.if-can_divide_by_zero.false) in
    both core table (atoms c.args.expression.now) (atoms c.in-Binary.operands.value.0) (atoms c.in-Binary.operands.value.1)
    (atoms c.deref-in-Binary.result.now.0) (atoms c.deref-in-Binary-3.result.now.1) c.args.left.now.items c.add_raise-in-Binary.new.left.items c.add_raise-in-Binary-2.new.left.items
    (ap atoms c.in-Binary.is ∙ binary-atoms scope c.in-Binary.operator (expression_of c.in-Binary.operands.value.0) (expression_of c.in-Binary.operands.value.1) false test)
    (ap (λ pair. atoms pair.0) c.deref-in-Binary.ensures) (ap (λ pair. atoms pair.1) c.deref-in-Binary-3.ensures) c.in_ok-raised-in-Binary.ensures.joined c.in_ok-again-in-Binary.ensures.joined

pub returns-in_ok-again-in-Binary-clause-raises : goal.returns-in_ok-again-in-Binary-clause-raises
returns-in_ok-again-in-Binary-clause-raises t c =
    let test : (is_division c.in-Binary.operator && divisor_can_raise (expression_of c.in-Binary.operands.value.1)) ≡ false =
    ap (λ x. is_division c.in-Binary.operator && divisor_can_raise (expression_of x.1)) (sym c.deref-in-Binary-2.ensures)
    ∙ (sym c.can_divide_by_zero.ensures ∙ c.if-can_divide_by_zero.false) in
    binary-either c.in-Binary.operator (expression_of c.in-Binary.operands.value.0) (expression_of c.in-Binary.operands.value.1) _ _ c.either.result test
    (c.in_ok-raised-in-Binary.ensures.raises ∙ ap (λ x. any_of (raises (expression_of x.0))) c.deref-in-Binary.ensures)
    (c.in_ok-again-in-Binary.ensures.raises ∙ ap (λ x. any_of (raises (expression_of x.1))) c.deref-in-Binary-3.ensures)
    c.either.ensures ∙ ap (λ x. any_of (raises (expression_of x))) (sym c.in-Binary.is)

pub returns-then-right-clause-joined : goal.returns-then-right-clause-joined
returns-then-right-clause-joined t c =
    let core = c.args.self.now.core.now in
    let table = c.args.self.now.core.now.labels in
    let scope = scope_of core c.args.procedure in
    let value : E.Expression → Join = λ e. value_label scope (expression_of e) in
    let atoms : E.Expression → Join = λ e. raise_atoms scope (expression_of e) in
    let test : any_of (raises (expression_of c.in-Short.operands.value.1)) ≡ true =
    ap (λ x. any_of (raises (expression_of x.1))) (sym c.deref-in-Short.ensures) ∙ (sym c.in_ok-right-in-Short.ensures.raises ∙ c.if-right.true) in
    both core table (atoms c.args.expression.now) (atoms c.in-Short.operands.value.1) (value c.in-Short.operands.value.0)
    (atoms c.deref-in-Short.result.now.1) (value c.deref-then-right.result.now.0) c.args.left.now.items c.add_raise-in-Short.new.left.items c.add_value-then-right.new.left.items
    (ap atoms c.in-Short.is ∙ short-atoms scope c.in-Short.field-0 (expression_of c.in-Short.operands.value.0) (expression_of c.in-Short.operands.value.1) true test)
    (ap (λ pair. atoms pair.1) c.deref-in-Short.ensures) (ap (λ pair. value pair.0) c.deref-then-right.ensures) c.in_ok-right-in-Short.ensures.joined c.in_ok-add_value-in-Short.ensures

pub returns-then-right-clause-raises : goal.returns-then-right-clause-raises
returns-then-right-clause-raises t c =
    let test : any_of (raises (expression_of c.in-Short.operands.value.1)) ≡ true =
    ap (λ x. any_of (raises (expression_of x.1))) (sym c.deref-in-Short.ensures) ∙ (sym c.in_ok-right-in-Short.ensures.raises ∙ c.if-right.true) in
    short-true c.in-Short.field-0 (expression_of c.in-Short.operands.value.0) (expression_of c.in-Short.operands.value.1) test ∙ ap (λ x. any_of (raises (expression_of x))) (sym c.in-Short.is)

pub returns-else-right-clause-joined : goal.returns-else-right-clause-joined
returns-else-right-clause-joined t c =
    let core = c.args.self.now.core.now in
    let table = c.args.self.now.core.now.labels in
    let scope = scope_of core c.args.procedure in
    let value : E.Expression → Join = λ e. value_label scope (expression_of e) in
    let atoms : E.Expression → Join = λ e. raise_atoms scope (expression_of e) in
    let test : any_of (raises (expression_of c.in-Short.operands.value.1)) ≡ false =
    ap (λ x. any_of (raises (expression_of x.1))) (sym c.deref-in-Short.ensures) ∙ (sym c.in_ok-right-in-Short.ensures.raises ∙ c.if-right.false) in
    on_ok_weaker c.add_raise-in-Short-2.result
    (λ second. both core table (atoms c.args.expression.now) (atoms c.in-Short.operands.value.1) (atoms c.in-Short.operands.value.0)
    (atoms c.deref-in-Short.result.now.1) (atoms c.deref-in-Short-2.result.now.0) c.args.left.now.items c.add_raise-in-Short.new.left.items c.add_raise-in-Short-2.new.left.items
    (ap atoms c.in-Short.is ∙ short-atoms scope c.in-Short.field-0 (expression_of c.in-Short.operands.value.0) (expression_of c.in-Short.operands.value.1) false test)
    (ap (λ pair. atoms pair.1) c.deref-in-Short.ensures) (ap (λ pair. atoms pair.0) c.deref-in-Short-2.ensures) c.in_ok-right-in-Short.ensures.joined second)
    c.add_raise-in-Short-2.ensures.joined
