use Rattle.std.proofs.Common.{◌*◌, ◌+◌, arith}
use Rattle.verifier.proofs.Shared.{any_default}
use Rattle.verifier.proofs.Trees.{descent_start, left_child, right_child, level_below, descent_end, none_above, tree_positive}
use Rattle.verifier.proofs.ends.MaximumTree.first_above.Goals as goal

pub index-requires : goal.index-requires
index-requires c = let p = tree_positive c.args.self.now.nodes.items c.args.self.now.width c.requires in omega (arith, p, c.requires.long, c.args.self.now.nodes.ok.0)

pub returns-then-index-low-clause-none : goal.returns-then-index-low-clause-none
returns-then-index-low-clause-none c =
    let p = tree_positive c.args.self.now.nodes.items c.args.self.now.width c.requires in
    let d = any_default c.args.self.now.nodes.items 1 0 c.index.result.now (omega (arith, p, c.requires.long)) in
    none_above c.args.self.now.nodes.items c.args.self.now.width c.args.low c.requires (omega (arith, d, c.index.ensures, c.if-index-low.true))

pub loop-first-init : goal.loop-first-init
loop-first-init c =
    let p = tree_positive c.args.self.now.nodes.items c.args.self.now.width c.requires in
    let d = any_default c.args.self.now.nodes.items 1 0 c.index.result.now (omega (arith, p, c.requires.long)) in
    descent_start c.args.self.now.nodes.items c.args.self.now.width c.args.low c.requires (omega (arith, d, c.index.ensures, c.if-index-low.false))

pub index-requires-in-loop-first : goal.index-requires-in-loop-first
index-requires-in-loop-first c =
    let d = c.loop-first.invariant in
    let l = level_below c.args.self.now.nodes.items c.args.self.now.width c.args.low c.loop-first.first c.loop-first.node d c.loop-first-test.true in
    omega (arith, c.requires.long, c.args.self.now.nodes.ok.0, l.most, d.to)

pub loop-first-preserved-then-index-low-2 : goal.loop-first-preserved-then-index-low-2
loop-first-preserved-then-index-low-2 c =
    let d = c.loop-first.invariant in
    let l = level_below c.args.self.now.nodes.items c.args.self.now.width c.args.low c.loop-first.first c.loop-first.node d c.loop-first-test.true in
    let e = any_default c.args.self.now.nodes.items (c.loop-first.node * 2) 0 c.index-in-loop-first.result.now (omega (arith, c.requires.long, l.most, d.to)) in
    right_child c.args.self.now.nodes.items c.args.self.now.width c.args.low c.loop-first.first c.loop-first.node c.requires d c.loop-first-test.true (omega (arith, e, c.index-in-loop-first.ensures, c.if-index-low-2.true))

pub loop-first-preserved : goal.loop-first-preserved
loop-first-preserved c =
    let d = c.loop-first.invariant in
    let l = level_below c.args.self.now.nodes.items c.args.self.now.width c.args.low c.loop-first.first c.loop-first.node d c.loop-first-test.true in
    let e = any_default c.args.self.now.nodes.items (c.loop-first.node * 2) 0 c.index-in-loop-first.result.now (omega (arith, c.requires.long, l.most, d.to)) in
    left_child c.args.self.now.nodes.items c.args.self.now.width c.args.low c.loop-first.first c.loop-first.node c.requires d c.loop-first-test.true (omega (arith, e, c.index-in-loop-first.ensures, c.if-index-low-2.false))

pub returns-clause-first : goal.returns-clause-first
returns-clause-first c =
    let d = c.loop-first.invariant in
    let e = descent_end c.args.self.now.nodes.items c.args.self.now.width c.args.low c.loop-first.first c.loop-first.node d (omega arith) in
    λ k h. d.before (c.args.self.now.width + k) (omega (arith, e)) (omega arith)
