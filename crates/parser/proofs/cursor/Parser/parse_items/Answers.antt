use Rattle.std.proofs.Common.{map, ◌≡◌, ◌∷◌, [], ◌++◌, sym, ◌∙◌}
use Rattle.std.proofs.lemmas.Result.{err_from_is_err_and}
use Rattle.std.proofs.lemmas.List.{map_push}
use Rattle.lexer.specs.Terminal.{terminals_of}
use Rattle.parser.specs.ReadGrammar.{item}
use Rattle.syntax.specs.Tree.{item_tree}
use Rattle.parser.proofs.Items.{begins_an_item, item_takes}
use Rattle.parser.proofs.Loops.{starts, one_more, is_over, fails_on, falls}
use Rattle.parser.proofs.cursor.Parser.parse_items.Goals as goal

pub loop-self-init : goal.loop-self-init
loop-self-init c = rw c.in_ok-items.ensures.items (starts 64 item item_takes (terminals_of c.args.self.now.rest.now))

pub returns-in_err-item : goal.returns-in_err-item
returns-in_err-item c =
    let p = err_from_is_err_and c.from_residual-in_err-item.result c.from_residual-in_err-item.ensures.1 in
    rw (p.1, p.2) (fails_on 64 item item_takes c.loop-self.invariant c.in_err-item.field-0.0 (begins_an_item (terminals_of c.loop-self.self.rest.now) ∙ sym c.is_at_item.ensures ∙ c.loop-self-test.true) c.in_err-item.ensures)

pub loop-self-smaller : goal.loop-self-smaller
loop-self-smaller c =
    falls 64 item item_takes c.loop-self.self.rest.now c.parse_item.new.self.rest.now (item_tree c.in_ok-item.item) c.in_ok-item.ensures

pub loop-self-preserved : goal.loop-self-preserved
loop-self-preserved c =
    let e : map item_tree c.push.new.self.items ≡ map item_tree c.loop-self.items.items ++ item_tree c.in_ok-item.item ∷ [] = rw c.in_ok-push.ensures.items (map_push _ c.loop-self.items.items c.in_ok-item.item) in
    rw e (one_more 64 item item_takes c.loop-self.invariant (item_tree c.in_ok-item.item) _ (begins_an_item (terminals_of c.loop-self.self.rest.now) ∙ sym c.is_at_item.ensures ∙ c.loop-self-test.true) c.in_ok-item.ensures)

pub returns : goal.returns
returns c =
    is_over 64 item item_takes c.loop-self.invariant (begins_an_item (terminals_of c.loop-self.self.rest.now) ∙ sym c.is_at_item.ensures ∙ c.loop-self-test.false)
