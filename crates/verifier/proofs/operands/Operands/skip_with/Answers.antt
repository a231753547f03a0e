use Rattle.std.proofs.Common.{◌∷◌, ◌≤◌, length, arith, subst, sym, ap, ◌∙◌}
use Rattle.verifier.specs.Operands.{booleans_of, ints_of, list_of, IsShared}
use Rattle.verifier.proofs.Shared.{node_at, skip_short, skip_missing}
use Rattle.verifier.proofs.operands.Operands.skip_with.Goals as goal

pub returns-then-node-lt64-clause-skip : goal.returns-then-node-lt64-clause-skip
returns-then-node-lt64-clause-skip c =
    let s = subst (λ lists. IsShared lists c.self.inside.nodes.items (ints_of c.self.inside.nodes.items) (booleans_of c.self.inside.nodes.items)) c.self.view_is c.self.invariant in
    let node = node_at c.args.self.now c.self.inside.nodes.items (ints_of c.self.inside.nodes.items) (booleans_of c.self.inside.nodes.items) s c.args.list c.index-node.result.now c.requires c.index-node.ensures in
    skip_short c.args.self.now c.self.inside.nodes.items (ints_of c.self.inside.nodes.items) (booleans_of c.self.inside.nodes.items) s c.args.list c.index-node.result.now node c.if-node-lt64.true

pub unreachable-requires : goal.unreachable-requires
unreachable-requires c =
    let s = subst (λ lists. IsShared lists c.self.inside.nodes.items (ints_of c.self.inside.nodes.items) (booleans_of c.self.inside.nodes.items)) c.self.view_is c.self.invariant in
    let node = node_at c.args.self.now c.self.inside.nodes.items (ints_of c.self.inside.nodes.items) (booleans_of c.self.inside.nodes.items) s c.args.list c.index-node.result.now c.requires c.index-node.ensures in
    let long : 64 ≤ length (list_of c.args.self.now c.args.list) = omega (arith, node.depth, c.if-node-lt64.false) in
    skip_missing c.args.self.now c.self.inside.nodes.items (ints_of c.self.inside.nodes.items) (booleans_of c.self.inside.nodes.items) s c.args.list c.index-node.result.now c.last_kind.result node c.requires c.if-node-lt64.false
    (c.last_kind.ensures (list_of c.args.self.now c.args.list) long node.bits) c.in-None.ensures.none

pub returns-clause-skip : goal.returns-clause-skip
returns-clause-skip c =
    let s = subst (λ lists. IsShared lists c.self.inside.nodes.items (ints_of c.self.inside.nodes.items) (booleans_of c.self.inside.nodes.items)) c.self.view_is c.self.invariant in
    let node = node_at c.args.self.now c.self.inside.nodes.items (ints_of c.self.inside.nodes.items) (booleans_of c.self.inside.nodes.items) s c.args.list c.index-node.result.now c.requires c.index-node.ensures in
    let long : 64 ≤ length (list_of c.args.self.now c.args.list) = omega (arith, node.depth, c.if-node-lt64.false) in
    c.in-Some.ensures.some ∙ ap (λ kinds. c.last_kind.result ∷ kinds) node.skip ∙ sym (c.last_kind.ensures (list_of c.args.self.now c.args.list) long node.bits)
