use Rattle.std.proofs.Common.{map, ◌≡◌, ◌∷◌, [], ◌++◌, sym, ◌∙◌}
use Rattle.std.proofs.lemmas.Result.{err_from_is_err_and}
use Rattle.std.proofs.lemmas.List.{map_push}
use Rattle.lexer.specs.KindOf.{text_of}
use Rattle.parser.proofs.Loops.{starts_after, fails_after, parted_more, parted_over, parted_fails, parted_falls}
use Rattle.parser.proofs.cursor.Parser.parse_separated.Goals as goal

pub returns-in_err-first : goal.returns-in_err-first
returns-in_err-first g c =
    let p = err_from_is_err_and c.from_residual.result c.from_residual.ensures.1 in
    λ room. rw (p.1, p.2) (fails_after room (text_of c.args.separator) g.T.Listed.form _ c.in_err-first.field-0.0 (c.in_err-first.ensures room))

pub loop-separator-init : goal.loop-separator-init
loop-separator-init g c = λ room. rw c.in_ok-push.ensures.items (rw c.in_ok-list.ensures.items (starts_after room (text_of c.args.separator) g.T.Listed.form _ _ _ (c.in_ok-first.ensures room)))

pub returns-in_err-next : goal.returns-in_err-next
returns-in_err-next g c =
    let p = err_from_is_err_and c.from_residual-in_err-next.result c.from_residual-in_err-next.ensures.1 in
    λ room. rw (p.1, p.2) (parted_fails room (text_of c.args.separator) g.T.Listed.form (c.loop-separator.invariant room) c.in_err-next.field-0.0 (sym c.is_at.ensures ∙ c.loop-separator-test.true) (c.in_err-next.ensures room))

pub loop-separator-smaller : goal.loop-separator-smaller
loop-separator-smaller g c = parted_falls 64 (text_of c.args.separator) g.T.Listed.form c.loop-separator.self.rest.now c.parse_another.new.self.rest.now (g.T.Listed.tree c.in_ok-next.next) (c.in_ok-next.ensures 64)

pub loop-separator-preserved : goal.loop-separator-preserved
loop-separator-preserved g c =
    let e : map g.T.Listed.tree c.push-in-loop-separator.new.self.items ≡ map g.T.Listed.tree c.loop-separator.list.items ++ g.T.Listed.tree c.in_ok-next.next ∷ [] = rw c.in_ok-push-2.ensures.items (map_push _ c.loop-separator.list.items c.in_ok-next.next) in
    λ room. rw e (parted_more room (text_of c.args.separator) g.T.Listed.form (c.loop-separator.invariant room) (g.T.Listed.tree c.in_ok-next.next) _ (sym c.is_at.ensures ∙ c.loop-separator-test.true) (c.in_ok-next.ensures room))

pub returns : goal.returns
returns g c = λ room. parted_over room (text_of c.args.separator) g.T.Listed.form (c.loop-separator.invariant room) (sym c.is_at.ensures ∙ c.loop-separator-test.false)
