use Rattle.std.proofs.Common.{ap, arith, length, subst, ◌∙◌}
use Rattle.std.proofs.lemmas.List.{length-set}
use Rattle.solver.specs.Links.{IsBelow, same}
use Rattle.solver.specs.declared.constraints.Atom.TheVariants.{Unknown, Written}
use Rattle.solver.proofs.EdgeCursors.{atom-below, left-ends, left-inside, left-put, left-skip, unknown-numbers, written-numbers}
use Rattle.solver.proofs.edges.Filling.add_left.Goals.{in-Written, in-Unknown}
use Rattle.solver.proofs.edges.Filling.add_left.Goals as goal

pub add-requires-clause-cursor : goal.add-requires-clause-cursor
add-requires-clause-cursor g c =
    let cs = c.args.constraints.now in
    let item = c.index-constraints-by.result in
    let left = c.as_slice-atom-items.result.now in
    let left_is = c.as_slice-atom-items.ensures ∙ ap (λ x. x.left.items) c.index-constraints-by.is in
    let below = subst (IsBelow (length c.args.self.now.written.cursors.items) (length c.args.self.now.unknown.cursors.items)) c.in-Written.is
    (atom-below _ _ cs c.args.by c.loop-atom.atom-index item left (Written 0) c.requires.range c.requires.by left_is c.loop-atom-test.true) in
    let count = c.loop-atom.invariant.written_count in
    left-inside Written cs c.args.by item.right left c.loop-atom.self.written.cursors.items c.loop-atom.self.written.list.items written-numbers c.loop-atom.atom-index c.in-Written.n (Written 0)
    c.loop-atom-test.true c.in-Written.is (omega (arith, below, count)) c.loop-atom.invariant.written

pub add-requires-in-Unknown-clause-cursor : goal.add-requires-in-Unknown-clause-cursor
add-requires-in-Unknown-clause-cursor g c =
    let cs = c.args.constraints.now in
    let item = c.index-constraints-by.result in
    let left = c.as_slice-atom-items.result.now in
    let left_is = c.as_slice-atom-items.ensures ∙ ap (λ x. x.left.items) c.index-constraints-by.is in
    let below = subst (IsBelow (length c.args.self.now.written.cursors.items) (length c.args.self.now.unknown.cursors.items)) c.in-Unknown.is
    (atom-below _ _ cs c.args.by c.loop-atom.atom-index item left (Written 0) c.requires.range c.requires.by left_is c.loop-atom-test.true) in
    let count = c.loop-atom.invariant.unknown_count in
    left-inside Unknown cs c.args.by item.right left c.loop-atom.self.unknown.cursors.items c.loop-atom.self.unknown.list.items unknown-numbers c.loop-atom.atom-index c.in-Unknown.u (Written 0)
    c.loop-atom-test.true c.in-Unknown.is (omega (arith, below, count)) c.loop-atom.invariant.unknown

pub loop-atom-preserved : goal.loop-atom-preserved
loop-atom-preserved g c =
    let cs = c.args.constraints.now in
    let item = c.index-constraints-by.result in
    let left = c.as_slice-atom-items.result.now in
    let i = c.loop-atom.atom-index in
    let h = c.loop-atom-test.true in
    let old = c.loop-atom.self in
    let before = c.loop-atom.invariant in
    let left_is = c.as_slice-atom-items.ensures ∙ ap (λ x. x.left.items) c.index-constraints-by.is in
    let inside = atom-below (length c.args.self.now.written.cursors.items) (length c.args.self.now.unknown.cursors.items) cs c.args.by i item left (Written 0) c.requires.range c.requires.by left_is h in
    elim c.match-atom.branch [
      | in-Written w ↦
          let below = subst (IsBelow (length c.args.self.now.written.cursors.items) (length c.args.self.now.unknown.cursors.items)) w.in-Written.is inside in
          let count = before.written_count in
          rw w.self-is (record {
            written = left-put Written cs c.args.by item.right left old.written.cursors.items old.written.list.items written-numbers i w.in-Written.n (Written 0) h w.in-Written.is (omega (arith, below, count)) before.written
                w.add.new.self.cursors.items w.add.new.self.list.items w.add.ensures.cursors w.add.ensures.list;
            unknown = left-skip Unknown cs c.args.by item.right left old.unknown.cursors.items old.unknown.list.items i (Written 0) h (λ j. ap (same (Unknown j)) w.in-Written.is) before.unknown;
            written_count = ap length w.add.ensures.cursors ∙ (length-set old.written.cursors.items w.in-Written.n _ ∙ before.written_count);
            unknown_count = before.unknown_count;
          })
      | in-Unknown w ↦
          let below = subst (IsBelow (length c.args.self.now.written.cursors.items) (length c.args.self.now.unknown.cursors.items)) w.in-Unknown.is inside in
          let count = before.unknown_count in
          rw w.self-is (record {
            written = left-skip Written cs c.args.by item.right left old.written.cursors.items old.written.list.items i (Written 0) h (λ j. ap (same (Written j)) w.in-Unknown.is) before.written;
            unknown = left-put Unknown cs c.args.by item.right left old.unknown.cursors.items old.unknown.list.items unknown-numbers i w.in-Unknown.u (Written 0) h w.in-Unknown.is (omega (arith, below, count)) before.unknown
                w.add-in-Unknown.new.self.cursors.items w.add-in-Unknown.new.self.list.items w.add-in-Unknown.ensures.cursors w.add-in-Unknown.ensures.list;
            written_count = before.written_count;
            unknown_count = ap length w.add-in-Unknown.ensures.cursors ∙ (length-set old.unknown.cursors.items w.in-Unknown.u _ ∙ before.unknown_count);
          })
    ]

pub returns-clause-written : goal.returns-clause-written
returns-clause-written g c =
    let item = c.index-constraints-by.result in
    let left = c.as_slice-atom-items.result.now in
    let left_is = c.as_slice-atom-items.ensures ∙ ap (λ x. x.left.items) c.index-constraints-by.is in
    left-ends Written c.args.constraints.now c.args.by item.right left c.loop-atom.self.written.cursors.items c.loop-atom.self.written.list.items item c.loop-atom.atom-index c.requires.by
    (ap (λ x. x.right) c.index-constraints-by.is) left_is (omega (arith, c.loop-atom-test.false)) c.loop-atom.invariant.written

pub returns-clause-unknown : goal.returns-clause-unknown
returns-clause-unknown g c =
    let item = c.index-constraints-by.result in
    let left = c.as_slice-atom-items.result.now in
    let left_is = c.as_slice-atom-items.ensures ∙ ap (λ x. x.left.items) c.index-constraints-by.is in
    left-ends Unknown c.args.constraints.now c.args.by item.right left c.loop-atom.self.unknown.cursors.items c.loop-atom.self.unknown.list.items item c.loop-atom.atom-index c.requires.by
    (ap (λ x. x.right) c.index-constraints-by.is) left_is (omega (arith, c.loop-atom-test.false)) c.loop-atom.invariant.unknown
