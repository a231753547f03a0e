use Rattle.std.proofs.Common.{arith}
use Rattle.std.proofs.lemmas.Bool.{ltb-false}
use Rattle.verifier.proofs.Shared.{any_default}
use Rattle.verifier.proofs.Trees.{none_above, tree_positive}
use Rattle.verifier.proofs.ends.MaximumTree.has_above.Goals as goal

pub index-requires : goal.index-requires
index-requires c = let p = tree_positive c.args.self.now.nodes.items c.args.self.now.width c.requires in omega (arith, p, c.requires.long, c.args.self.now.nodes.ok.0)

pub returns : goal.returns
returns c = λ e.
    let p = tree_positive c.args.self.now.nodes.items c.args.self.now.width c.requires in
    let d = any_default c.args.self.now.nodes.items 1 0 c.index.result.now (omega (arith, p, c.requires.long)) in
    none_above c.args.self.now.nodes.items c.args.self.now.width c.args.low c.requires (omega (arith, d, c.index.ensures, ltb-false _ _ e))
