use Rattle.std.proofs.Common.{rules, arith, ◌≡◌, ◌∙◌, ap, sym, length, ◌++◌, ◌<◌, [], ◌∷◌, ℤ}
use Rattle.modules.specs.declared.instruction.Instruction.TheVariants.{Push}
use Rattle.resolved.specs.TreeOf.{expression_of}
use Rattle.lowering.specs.Expressions.{value_code}
use Rattle.common.specs.declared.operator.Connective.TheVariants.{And, Or}
use Rattle.std.proofs.lemmas.Result.{on_ok_weaker}
use Rattle.resolved.specs.Tree.{Binary, Short}
use Rattle.lowering.proofs.Appending.{binary-pushed, short-pushed}
use Rattle.lowering.proofs.Literals.{literal-is}
use Rattle.lowering.proofs.operands.+value.Goals as goal

pub push_value-returns-in-Integer : goal.push_value-returns-in-Integer
push_value-returns-in-Integer t c =
    let fits : c.in-Integer.literal < 4294967296 = omega arith in
    let is = literal-is c.in-Integer.literal fits c.cast_signed.result c.cast_signed.ensures in
    on_ok_weaker c.push.result
    (λ made. made ∙ ap (λ (z : ℤ). c.args.code.now.items ++ Push z ∷ []) is
    ∙ sym (ap (λ e. c.args.code.now.items ++ value_code (length c.args.code.now.items) (expression_of e)) c.in-Integer.is))
    c.push.ensures

pub push_value-returns-in_ok-push_value-in-Binary-2 :
    goal.push_value-returns-in_ok-push_value-in-Binary-2
push_value-returns-in_ok-push_value-in-Binary-2 t c =
    let left = expression_of c.deref-in-Binary.result.now.0 in
    let right = expression_of c.deref-in-Binary-2.result.now.1 in
    let before = c.args.code.now.items in
    let tree : expression_of c.args.expression.now ≡ Binary c.in-Binary.operator left right = search rules in
    on_ok_weaker c.push-in-Binary.result
    (λ made. binary-pushed before c.push_value-in-Binary.new.code.items c.push_value-in-Binary-2.new.code.items _ left right c.in-Binary.operator _ _
    c.in_ok-push_value-in-Binary.ensures c.in_ok-push_value-in-Binary-2.ensures c.operator_instruction.ensures made tree)
    c.push-in-Binary.ensures

pub push_value-returns-in-And : goal.push_value-returns-in-And
push_value-returns-in-And t c =
    let left = expression_of c.deref-in-Short.result.now.0 in
    let right = expression_of c.deref-in-And.result.now.1 in
    let tree : expression_of c.args.expression.now ≡ Short And left right = search rules in
    on_ok_weaker c.push_rest_of_and.result
    (λ made. short-pushed c.args.code.now.items c.push_value-in-Short.new.code.items _ left right And _ c.in_ok-push_value-in-Short.ensures made tree)
    c.push_rest_of_and.ensures

pub push_value-returns-in-Or : goal.push_value-returns-in-Or
push_value-returns-in-Or t c =
    let left = expression_of c.deref-in-Short.result.now.0 in
    let right = expression_of c.deref-in-Or.result.now.1 in
    let tree : expression_of c.args.expression.now ≡ Short Or left right = search rules in
    on_ok_weaker c.push_rest_of_or.result
    (λ made. short-pushed c.args.code.now.items c.push_value-in-Short.new.code.items _ left right Or _ c.in_ok-push_value-in-Short.ensures made tree)
    c.push_rest_of_or.ensures
