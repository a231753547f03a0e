use Rattle.std.proofs.lemmas.Result.{on_ok_weaker}
use Rattle.resolved.specs.TreeOf.{expression_of}
use Rattle.lowering.proofs.Appending.{store-pushed}
use Rattle.lowering.proofs.actions.push_store.Goals as goal

pub returns : goal.returns
returns c =
    on_ok_weaker c.push.result
    (λ made. store-pushed c.args.code.now.items c.push_value.new.code.items c.push_value-2.new.code.items _ (expression_of c.args.index.now) (expression_of c.args.value.now) c.args.array _
    c.in_ok-push_value.ensures c.in_ok-push_value-2.ensures c.store_element_of.ensures made)
    c.push.ensures
