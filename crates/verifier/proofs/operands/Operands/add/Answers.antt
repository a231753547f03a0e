use Rattle.std.proofs.Common.{rules, ◌≡◌, ◌≢◌, ◌+◌, ◌<◌, ℕ, List, ◌∷◌, [], ◌++◌, length, drop, set, arith, refl, sym, ap, subst, ◌∙◌}
use Rattle.common.specs.declared.base_type.BaseType.{BaseType}
use Rattle.verifier.specs.Operands.{booleans_of, ints_of, list_of, noted, spelled, IsShared}
use Rattle.verifier.specs.declared.operands.Node.{Node}
use Rattle.verifier.proofs.Shared.{added, node_at, pushed, shared_longer}
use Rattle.verifier.proofs.operands.Operands.add.Goals as goal

pub invariant_of-self-2 : goal.invariant_of-self-2
invariant_of-self-2 c =
    let nodes : List Node = c.self.inside.nodes.items in
    let node : Node = c.index-node.result.now in
    let more : Node = record { top = c.top_of.result; below = c.args.list; depth = node.depth + 1; skip = c.skip_with-skip.result; bits = c.bits_with-bits.result; int = 0; boolean = 0 } in
    let above_is : c.len-above.result ≡ length nodes = search rules in
    let long : length c.args.self.now ≡ length nodes = ap length (sym c.self.view_is) ∙ c.self.invariant.long in
    let items_are : c.note.new.nodes.items ≡ set (nodes ++ more ∷ []) c.args.list (noted c.args.kind c.len-above.result node) = (added c.args.self.now nodes c.push.new.self.items _ c.args.kind c.args.list c.len-above.result node more c.self.view_is long c.requires.there c.index-node.ensures above_is (search rules) (c.note.ensures node) c.top_of.ensures refl).0 in
    let view = c.self.view_is in
    let lists : List (List BaseType) = spelled [] nodes in
    let there : c.args.list < length lists = subst (λ l. c.args.list < length l) (sym view) c.requires.there in
    let here = node_at lists nodes (ints_of nodes) (booleans_of nodes) c.self.invariant c.args.list node there c.index-node.ensures in
    let inside : c.args.list < length nodes = omega (arith, there, c.self.invariant.long) in
    let made : spelled [] (set (nodes ++ more ∷ []) c.args.list (noted c.args.kind c.len-above.result node)) ≡ lists ++ (c.args.kind ∷ list_of lists c.args.list) ∷ [] = pushed lists nodes c.args.kind c.args.list c.len-above.result node more refl c.index-node.ensures inside c.top_of.ensures refl in
    let shared = shared_longer lists nodes c.args.list c.len-above.result c.args.kind node more c.self.invariant there
    (subst (λ l. (k : ℕ) → k < length l → list_of l k ≢ c.args.kind ∷ list_of l c.args.list) (sym view) c.requires.fresh)
    c.index-node.ensures above_is c.top_of.ensures refl refl
    (c.bits_with-bits.ensures (list_of lists c.args.list) here.bits)
    (subst (λ l. list_of l c.skip_with-skip.result ≡ drop 63 (list_of l c.args.list)) (sym view) c.skip_with-skip.ensures.skip)
    (subst (λ l. c.skip_with-skip.result < length l) (sym view) c.skip_with-skip.ensures.there)
    refl refl in
    subst (λ (items : List Node). IsShared (spelled [] items) items (ints_of items) (booleans_of items)) (sym items_are)
    (subst (λ l. IsShared l (set (nodes ++ more ∷ []) c.args.list (noted c.args.kind c.len-above.result node)) (ints_of (set (nodes ++ more ∷ []) c.args.list (noted c.args.kind c.len-above.result node))) (booleans_of (set (nodes ++ more ∷ []) c.args.list (noted c.args.kind c.len-above.result node)))) (sym made) shared)

pub returns-clause-longer : goal.returns-clause-longer
returns-clause-longer c =
    let long : length c.args.self.now ≡ length c.self.inside.nodes.items = ap length (sym c.self.view_is) ∙ c.self.invariant.long in
    let is = added c.args.self.now c.self.inside.nodes.items c.push.new.self.items _ c.args.kind c.args.list c.len-above.result c.index-node.result.now (record { top = c.top_of.result; below = c.args.list; depth = c.index-node.result.now.depth + 1; skip = c.skip_with-skip.result; bits = c.bits_with-bits.result; int = 0; boolean = 0 }) c.self.view_is long c.requires.there c.index-node.ensures (search rules) (search rules) (c.note.ensures c.index-node.result.now) c.top_of.ensures refl in
    ((c.args.kind ∷ list_of c.args.self.now c.args.list) ∷ [], is.1.0)

pub returns-clause-few : goal.returns-clause-few
returns-clause-few c =
    let long : length c.args.self.now ≡ length c.self.inside.nodes.items = ap length (sym c.self.view_is) ∙ c.self.invariant.long in
    let is = added c.args.self.now c.self.inside.nodes.items c.push.new.self.items _ c.args.kind c.args.list c.len-above.result c.index-node.result.now (record { top = c.top_of.result; below = c.args.list; depth = c.index-node.result.now.depth + 1; skip = c.skip_with-skip.result; bits = c.bits_with-bits.result; int = 0; boolean = 0 }) c.self.view_is long c.requires.there c.index-node.ensures (search rules) (search rules) (c.note.ensures c.index-node.result.now) c.top_of.ensures refl in
    omega (arith, is.1.1.0)

pub returns-clause-there : goal.returns-clause-there
returns-clause-there c =
    let long : length c.args.self.now ≡ length c.self.inside.nodes.items = ap length (sym c.self.view_is) ∙ c.self.invariant.long in
    let is = added c.args.self.now c.self.inside.nodes.items c.push.new.self.items _ c.args.kind c.args.list c.len-above.result c.index-node.result.now (record { top = c.top_of.result; below = c.args.list; depth = c.index-node.result.now.depth + 1; skip = c.skip_with-skip.result; bits = c.bits_with-bits.result; int = 0; boolean = 0 }) c.self.view_is long c.requires.there c.index-node.ensures (search rules) (search rules) (c.note.ensures c.index-node.result.now) c.top_of.ensures refl in
    let above_is : c.len-above.result ≡ length c.self.inside.nodes.items = search rules in
    omega (arith, is.1.1.0, above_is, long)

pub returns-clause-made : goal.returns-clause-made
returns-clause-made c =
    let long : length c.args.self.now ≡ length c.self.inside.nodes.items = ap length (sym c.self.view_is) ∙ c.self.invariant.long in
    let is = added c.args.self.now c.self.inside.nodes.items c.push.new.self.items _ c.args.kind c.args.list c.len-above.result c.index-node.result.now (record { top = c.top_of.result; below = c.args.list; depth = c.index-node.result.now.depth + 1; skip = c.skip_with-skip.result; bits = c.bits_with-bits.result; int = 0; boolean = 0 }) c.self.view_is long c.requires.there c.index-node.ensures (search rules) (search rules) (c.note.ensures c.index-node.result.now) c.top_of.ensures refl in
    is.1.1.1.0

pub returns-clause-alone : goal.returns-clause-alone
returns-clause-alone c =
    let long : length c.args.self.now ≡ length c.self.inside.nodes.items = ap length (sym c.self.view_is) ∙ c.self.invariant.long in
    let is = added c.args.self.now c.self.inside.nodes.items c.push.new.self.items _ c.args.kind c.args.list c.len-above.result c.index-node.result.now (record { top = c.top_of.result; below = c.args.list; depth = c.index-node.result.now.depth + 1; skip = c.skip_with-skip.result; bits = c.bits_with-bits.result; int = 0; boolean = 0 }) c.self.view_is long c.requires.there c.index-node.ensures (search rules) (search rules) (c.note.ensures c.index-node.result.now) c.top_of.ensures refl in
    is.1.1.1.1
