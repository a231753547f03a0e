use Rattle.resolved.specs.TreeOf.{expression_of}
use Rattle.path_map.specs.Exceptions.{raised_list}
use Rattle.path_map.proofs.Forms.{store-same}
use Rattle.path_map.proofs.raises.raises_of_store.Goals as goal

pub returns : goal.returns
returns c =
    store-same (expression_of c.args.index.now) (expression_of c.args.value.now) c.args.length c.index_can_raise.result
    (raised_list c.raises_of.result.arith c.raises_of.result.bounds) (raised_list c.raises_of-2.result.arith c.raises_of-2.result.bounds)
    (raised_list c.or.result.arith c.or.result.bounds) (raised_list c.or-2.result.arith c.or-2.result.bounds)
    c.index_can_raise.ensures c.raises_of.ensures c.raises_of-2.ensures c.or.ensures c.or-2.ensures
