use Rattle.std.proofs.Common.{rules, ◌≡◌, ap, ◌∙◌}
use Rattle.std.proofs.lemmas.Result.{on_ok_weaker}
use Rattle.resolved.specs.Tree.{Binary}
use Rattle.resolved.specs.TreeOf.{expression_of}
use Rattle.lowering.specs.Expressions.{negated, negated_operator, operator_instruction}
use Rattle.lowering.proofs.Appending.{binary-pushed}
use Rattle.lowering.proofs.conditions.push_negated.Goals as goal

pub returns-in-Binary : goal.returns-in-Binary
returns-in-Binary c =
    let left = expression_of c.deref.result.now.0 in
    let right = expression_of c.deref-in-Binary.result.now.1 in
    let tree : negated (expression_of c.args.condition.now) ≡ Binary (negated_operator c.in-Binary.operator) left right = search rules in
    on_ok_weaker c.push-in-Binary.result
    (λ made. binary-pushed c.args.code.now.items c.push_value.new.code.items c.push_value-in-Binary.new.code.items _ left right (negated_operator c.in-Binary.operator) _ _
    c.in_ok-push_value-in-Binary.ensures c.in_ok-push_value-in-Binary-2.ensures (c.operator_instruction.ensures ∙ ap operator_instruction c.negated_operator.ensures) made tree)
    c.push-in-Binary.ensures
