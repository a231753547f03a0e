use Rattle.std.proofs.Common.{◌++◌, ◌∷◌, [], sym, ◌∙◌, inl, inr, ap, arith}
use Rattle.labels.proofs.Merge.{Merged-less, Merged-equal, Merged-greater, Merged-end}
use Rattle.labels.proofs.joins.union.Goals as goal
use Rattle.labels.proofs.joins.union.Goals.{then-merge-test+else-j-right, else-merge-test}

pub merge-preserved-in-Less : goal.merge-preserved-in-Less
merge-preserved-in-Less c =
    Merged-less c.args.left.now c.args.right.now c.requires.left_ascends c.requires.right_ascends c.merge.policies.items c.push.new.self.items c.merge.i c.merge.j
    c.index-left-i.result c.index-right-j.result c.merge.invariant c.merge-test.true c.if-j-right.true c.index-left-i.is c.index-right-j.is
    (sym c.in-Less.ensures)
    (c.in_ok-push-in-Less.ensures.items ∙ ap (λ p. c.merge.policies.items ++ p ∷ []) c.in_ok-clone-in-Less.ensures.cases)

pub merge-preserved-in-Equal : goal.merge-preserved-in-Equal
merge-preserved-in-Equal c =
    Merged-equal c.args.left.now c.args.right.now c.requires.left_ascends c.requires.right_ascends c.merge.policies.items c.push-in-Equal.new.self.items c.merge.i c.merge.j
    c.index-left-i.result c.index-right-j.result c.merge.invariant c.merge-test.true c.if-j-right.true c.index-left-i.is c.index-right-j.is
    (sym c.in-Equal.ensures)
    (c.in_ok-push-in-Equal.ensures.items ∙ ap (λ p. c.merge.policies.items ++ p ∷ []) c.in_ok-clone-in-Equal.ensures.cases)

pub merge-preserved : goal.merge-preserved
merge-preserved c =
    Merged-greater c.args.left.now c.args.right.now c.requires.left_ascends c.requires.right_ascends c.merge.policies.items c.push-in-Greater.new.self.items c.merge.i c.merge.j
    c.index-left-i.result c.index-right-j.result c.merge.invariant c.merge-test.true c.if-j-right.true c.index-left-i.is c.index-right-j.is
    (sym c.in-Greater.ensures)
    (c.in_ok-push-in-Greater.ensures.items ∙ ap (λ p. c.merge.policies.items ++ p ∷ []) c.in_ok-clone-in-Greater.ensures.cases)

pub returns : goal.returns
returns c =
    let end = Merged-end c.args.left.now c.args.right.now c.merge.policies.items c.merge.i c.merge.j c.requires.left_ascends c.requires.right_ascends c.merge.invariant
    (elim c.merge-test.branch [ then-merge-test+else-j-right w ↦ inr (omega arith) | else-merge-test w ↦ inl (omega arith) ]) in
    let first = c.in_ok-append.ensures in
    let second = c.in_ok-append-2.ensures in
    second ∙ (rw first end)
