use Rattle.std.proofs.Common.{◌≡◌, [], ◌∷◌, ◌++◌, map, Ok, ap, sym, ◌∙◌}
use Rattle.std.proofs.lemmas.List.{map_push}
use Rattle.std.proofs.lemmas.Result.{err_from_is_err_and}
use Rattle.syntax.specs.declared.tree.Item.{Item}
use Rattle.syntax.specs.Tree.{item_tree, name_tree}
use Rattle.types.specs.Resolution.{counted}
use Rattle.types.specs.Views.{found_in, signature_view, top_view}
use Rattle.types.proofs.NextItems.{name_wrong}
use Rattle.types.proofs.Tables.{named}
use Rattle.types.proofs.top.TopNames.add.Goals as goal

pub returns-in_err-require_fresh-clause-made : goal.returns-in_err-require_fresh-clause-made
returns-in_err-require_fresh-clause-made c =
    let p = err_from_is_err_and c.from_residual.result c.from_residual.ensures.1 in
    rw (p.1, p.2) (name_wrong (top_view c.args.self.now) (item_tree c.args.item.now) (name_tree c.name_of-name.result.now) c.find.result c.in_err-require_fresh.field-0.0
    c.name_of-name.ensures c.find.ensures c.in_err-require_fresh.ensures.made)

pub returns-in-Channel-clause-made : goal.returns-in-Channel-clause-made
returns-in-Channel-clause-made c =
    named (top_view c.args.self.now) (item_tree c.args.item.now) (found_in c.insert.new.table) (name_tree c.name_of-name.result.now) _ _
    c.name_of-name.ensures c.find.ensures c.in_ok-require_fresh.ensures.made c.meaning_of-meaning.ensures c.in_ok-insert.ensures
    ∙ ap (λ (item : Item). Ok (record (counted (top_view c.args.self.now) (item_tree item)) { names = found_in c.insert.new.table })) c.in-Channel.is

pub returns-in-Exception-clause-made : goal.returns-in-Exception-clause-made
returns-in-Exception-clause-made c =
    named (top_view c.args.self.now) (item_tree c.args.item.now) (found_in c.insert.new.table) (name_tree c.name_of-name.result.now) _ _
    c.name_of-name.ensures c.find.ensures c.in_ok-require_fresh.ensures.made c.meaning_of-meaning.ensures c.in_ok-insert.ensures
    ∙ ap (λ (item : Item). Ok (record (counted (top_view c.args.self.now) (item_tree item)) { names = found_in c.insert.new.table })) c.in-Exception.is

pub returns-in-Global-clause-made : goal.returns-in-Global-clause-made
returns-in-Global-clause-made c =
    named (top_view c.args.self.now) (item_tree c.args.item.now) (found_in c.insert.new.table) (name_tree c.name_of-name.result.now) _ _
    c.name_of-name.ensures c.find.ensures c.in_ok-require_fresh.ensures.made c.meaning_of-meaning.ensures c.in_ok-insert.ensures
    ∙ ap (λ (item : Item). Ok (record (counted (top_view c.args.self.now) (item_tree item)) { names = found_in c.insert.new.table })) c.in-Global.is

pub returns-in_ok-push-in-Procedure-clause-made : goal.returns-in_ok-push-in-Procedure-clause-made
returns-in_ok-push-in-Procedure-clause-made c =
    let before = c.args.self.now in
    let old = before.signatures.items in
    let pushed : map signature_view c.push.new.self.items ≡ map signature_view old ++ signature_view c.in_ok-make_signature-in-Procedure.field-0 ∷ [] =
    rw c.in_ok-push-in-Procedure.ensures.items (map_push signature_view old c.in_ok-make_signature-in-Procedure.field-0) in
    let all = ap (λ last. map signature_view old ++ last ∷ []) (sym c.in_ok-make_signature-in-Procedure.ensures) ∙ sym pushed in
    named (top_view c.args.self.now) (item_tree c.args.item.now) (found_in c.insert.new.table) (name_tree c.name_of-name.result.now) _ _
    c.name_of-name.ensures c.find.ensures c.in_ok-require_fresh.ensures.made c.meaning_of-meaning.ensures c.in_ok-insert.ensures
    ∙ ap (λ (item : Item). Ok (record (counted (top_view c.args.self.now) (item_tree item)) { names = found_in c.insert.new.table })) c.in-Procedure.is
    ∙ (λ i. Ok (record { names = found_in c.insert.new.table; channels = before.channels; exceptions = before.exceptions; globals = before.globals; signatures = all i }))
