use Rattle.std.proofs.Common.{◌≡◌, ◌++◌, ◌∷◌, [], false, length, take, sym, ap, ◌∙◌}
use Rattle.std.specs.List.{list_any}
use Rattle.std.specs.String.{string_eq}
use Rattle.std.proofs.lemmas.Bool.{cond-false}
use Rattle.std.proofs.lemmas.Iterator.Consumers.{YieldsList-turn}
use Rattle.std.proofs.lemmas.Iterator.Adapters.{YieldsList-from_vec}
use Rattle.std.proofs.lemmas.List.{take_more, length_push}
use Rattle.principals.proofs.Names.{new_name}
use Rattle.principals.proofs.number_names.Goals as goal

pub loop-name-preserved : goal.loop-name-preserved
loop-name-preserved c =
    let names = c.args.names.items in
    let n = length c.loop-name.yielded in
    let name = c.in-Some.name in
    let keys = c.loop-name.table.keys in
    let t = YieldsList-turn (YieldsList-from_vec {s = c.into_iter-name-iterator.result} names (cc) (cc)) c.loop-name.yielded c.loop-name.name-iterator c.loop-name.yielded_by c.next.result c.next.new.self name c.in-Some.is c.next.ensures.steps in
    let new : list_any (string_eq name) keys ≡ false =
    (λ i. list_any (string_eq (t.1 i)) (c.loop-name.invariant i)) ∙ new_name names n name c.requires t.0 in
    c.in_ok-insert.ensures.keys
    ∙ cond-false (list_any (string_eq name) keys) keys (keys ++ name ∷ []) new
    ∙ (λ i. c.loop-name.invariant i ++ t.1 i ∷ [])
    ∙ sym (take_more names n name t.0)
    ∙ ap (λ k. take k names) (sym (length_push c.loop-name.yielded name))
