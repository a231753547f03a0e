use Rattle.std.proofs.Common.{[], ◌∷◌, arith, subst, ap, ◌∙◌}
use Rattle.verifier.specs.Flow.{all_popped, and_then, popped}
use Rattle.verifier.specs.Operands.{booleans_of, ints_of, list_of, IsShared}
use Rattle.verifier.proofs.Runs.{popped_less}
use Rattle.verifier.proofs.Shared.{node_at}
use Rattle.verifier.proofs.operands.Operands.pop.Goals as goal

pub returns-clause-there : goal.returns-clause-there
returns-clause-there c =
    let s = subst (λ lists. IsShared lists c.self.inside.nodes.items (ints_of c.self.inside.nodes.items) (booleans_of c.self.inside.nodes.items)) c.self.view_is c.self.invariant in
    let node = node_at c.args.self.now c.self.inside.nodes.items (ints_of c.self.inside.nodes.items) (booleans_of c.self.inside.nodes.items) s c.args.list c.index-node.result.now c.requires c.index-node.ensures in
    omega (arith, node.below, c.requires)

pub returns-clause-fewer : goal.returns-clause-fewer
returns-clause-fewer c =
    let s = subst (λ lists. IsShared lists c.self.inside.nodes.items (ints_of c.self.inside.nodes.items) (booleans_of c.self.inside.nodes.items)) c.self.view_is c.self.invariant in
    let node = node_at c.args.self.now c.self.inside.nodes.items (ints_of c.self.inside.nodes.items) (booleans_of c.self.inside.nodes.items) s c.args.list c.index-node.result.now c.requires c.index-node.ensures in
    let rest = list_of c.args.self.now c.index-node.result.now.below in
    popped_less (c.args.wanted ∷ []) (list_of c.args.self.now c.args.list) rest (ap (λ e. and_then e (all_popped [])) (ap (popped c.args.wanted) node.list ∙ c.in_ok-take_top.ensures.accepted rest))

pub returns-clause-accepted : goal.returns-clause-accepted
returns-clause-accepted c =
    let s = subst (λ lists. IsShared lists c.self.inside.nodes.items (ints_of c.self.inside.nodes.items) (booleans_of c.self.inside.nodes.items)) c.self.view_is c.self.invariant in
    let node = node_at c.args.self.now c.self.inside.nodes.items (ints_of c.self.inside.nodes.items) (booleans_of c.self.inside.nodes.items) s c.args.list c.index-node.result.now c.requires c.index-node.ensures in
    ap (popped c.args.wanted) node.list ∙ c.in_ok-take_top.ensures.accepted (list_of c.args.self.now c.index-node.result.now.below)
