use Rattle.std.proofs.Common.{map, ◌≡◌, ◌∷◌, [], ◌++◌, sym, ◌∙◌}
use Rattle.std.proofs.lemmas.Result.{err_from_is_err_and}
use Rattle.std.proofs.lemmas.List.{map_push}
use Rattle.syntax.specs.Tree.{expression_tree}
use Rattle.parser.specs.ReadGrammar.{expression}
use Rattle.parser.proofs.Loops.{starts_after, fails_after, parted_more, parted_over, parted_fails, parted_falls}
use Rattle.parser.proofs.cursor.Parser.parse_some_expressions.Goals as goal

pub returns-in_err-first : goal.returns-in_err-first
returns-in_err-first c =
    let p = err_from_is_err_and c.from_residual.result c.from_residual.ensures.1 in
    rw (p.1, p.2) (fails_after c.args.room "," expression _ c.in_err-first.field-0.0 c.in_err-first.ensures)

pub returns-then-not-is_at : goal.returns-then-not-is_at
returns-then-not-is_at c =
    rw c.in_ok-try_alloc_slice_copy.ensures (parted_over c.args.room "," expression (starts_after c.args.room "," expression _ _ _ (c.in_ok-first.ensures)) (sym c.is_at.ensures ∙ c.if-not-is_at.true))

pub loop-self-init : goal.loop-self-init
loop-self-init c = rw c.in_ok-push.ensures.items (rw c.new-expressions.ensures.items (starts_after c.args.room "," expression _ _ _ (c.in_ok-first.ensures)))

pub returns-in_err-expression : goal.returns-in_err-expression
returns-in_err-expression c =
    let p = err_from_is_err_and c.from_residual-in_err-expression.result c.from_residual-in_err-expression.ensures.1 in
    rw (p.1, p.2) (parted_fails c.args.room "," expression c.loop-self.invariant c.in_err-expression.field-0.0 (sym c.is_at-in-loop-self.ensures ∙ c.loop-self-test.true) (c.in_err-expression.ensures))

pub loop-self-smaller : goal.loop-self-smaller
loop-self-smaller c = parted_falls c.args.room "," expression c.loop-self.self.rest.now c.parse_another_expression.new.self.rest.now (expression_tree c.in_ok-expression.expression) (c.in_ok-expression.ensures)

pub loop-self-preserved : goal.loop-self-preserved
loop-self-preserved c =
    let e : map expression_tree c.push-in-loop-self.new.self.items ≡ map expression_tree c.loop-self.expressions.items ++ expression_tree c.in_ok-expression.expression ∷ [] = rw c.in_ok-push-2.ensures.items (map_push _ c.loop-self.expressions.items c.in_ok-expression.expression) in
    rw e (parted_more c.args.room "," expression c.loop-self.invariant (expression_tree c.in_ok-expression.expression) _ (sym c.is_at-in-loop-self.ensures ∙ c.loop-self-test.true) (c.in_ok-expression.ensures))

pub returns : goal.returns
returns c =
    rw (c.in_ok-try_alloc_slice_copy-2.ensures, c.as_slice.ensures.value) (parted_over c.args.room "," expression c.loop-self.invariant (sym c.is_at-in-loop-self.ensures ∙ c.loop-self-test.false))
