use Rattle.std.proofs.Common.{ap, sym, subst}
use Rattle.syntax.specs.Tree.{expression_tree}
use Rattle.types.specs.Expressions.{expression_finding}
use Rattle.types.specs.Views.{Resolves, names_of, typed_view}
use Rattle.types.proofs.body.BodyScope.+expression.Goals as goal

pub resolve_expression-returns-in-Unary : goal.resolve_expression-returns-in-Unary
resolve_expression-returns-in-Unary t c =
    subst (λ one. Resolves typed_view c.resolve_unary.result (expression_finding (names_of c.args.self.now) one))
    (sym (ap expression_tree c.in-Unary.is)) (c.resolve_unary.ensures c.in-Unary.at)

pub resolve_expression-returns-in-Binary : goal.resolve_expression-returns-in-Binary
resolve_expression-returns-in-Binary t c =
    subst (λ one. Resolves typed_view c.resolve_binary.result (expression_finding (names_of c.args.self.now) one))
    (sym (ap expression_tree c.in-Binary.is)) (c.resolve_binary.ensures c.in-Binary.at)
