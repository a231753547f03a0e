use Rattle.std.proofs.Common.{◌∙◌, ◌+◌, take, sym}
use Rattle.channels.proofs.Views.{all_given, cut_before, cut_within, none_more, on_err, one_held, same_held}
use Rattle.channels.proofs.view.write_lines.Goals as goal
use Rattle.channels.proofs.view.write_lines.Goals.{then-sees+in_ok-line+in_ok-extend_from_slice, then-len-ge-BLOCK+in_ok-write_all, else-len-ge-BLOCK, else-sees}

pub loop-pair-preserved : goal.loop-pair-preserved
loop-pair-preserved g c = elim c.if-sees.branch [
  | then-sees+in_ok-line+in_ok-extend_from_slice w ↦
      let held = same_held c.args.observer.now.hierarchy.now c.args.observer.now.program.now c.args.observer.now.principal (take (c.loop-pair.pair-index + 1) c.args.pairs.now) _ _ _ w.extend_from_slice.new.self.items w.in_ok-extend_from_slice.ensures.items
      (one_held c.args.observer.now.hierarchy.now c.args.observer.now.program.now c.args.observer.now.principal c.args.pairs.now c.loop-pair.pair-index _ _ _ c.loop-pair.lines.items w.as_bytes.result.now c.loop-pair-test.true
      (sym c.sees.ensures ∙ w.if-sees.true) (w.as_bytes.ensures.value ∙ w.in_ok-line.ensures) c.loop-pair.invariant.held) in
      elim w.if-len-ge-BLOCK.branch [
        | then-len-ge-BLOCK+in_ok-write_all v ↦ rw (w.out-is ∙ v.out-is) (rw (w.lines-is ∙ v.lines-is) (record {
          held = same_held c.args.observer.now.hierarchy.now c.args.observer.now.program.now c.args.observer.now.principal (take (c.loop-pair.pair-index + 1) c.args.pairs.now) _ _ _ v.clear.new.self.items v.clear.ensures.items
              (all_given c.args.observer.now.hierarchy.now c.args.observer.now.program.now c.args.observer.now.principal (take (c.loop-pair.pair-index + 1) c.args.pairs.now) _ _ _ v.deref.result.now
              (same_held c.args.observer.now.hierarchy.now c.args.observer.now.program.now c.args.observer.now.principal (take (c.loop-pair.pair-index + 1) c.args.pairs.now) _ _ _ v.deref.result.now v.deref.ensures.value held)
              v.in_ok-write_all.ensures.accepted);
          kept = v.in_ok-write_all.ensures.kept ∙ c.loop-pair.invariant.kept;
        }))
        | else-len-ge-BLOCK v ↦ rw (w.out-is ∙ v.out-is) (rw (w.lines-is ∙ v.lines-is) (record { held = held; kept = c.loop-pair.invariant.kept }))
      ]
  | else-sees w ↦ rw w.out-is (rw w.lines-is (record {
    held = none_more c.args.observer.now.hierarchy.now c.args.observer.now.program.now c.args.observer.now.principal c.args.pairs.now c.loop-pair.pair-index _ _ _ _ c.loop-pair-test.true
        (sym c.sees.ensures ∙ w.if-sees.false) c.loop-pair.invariant.held;
    kept = c.loop-pair.invariant.kept;
  }))
]

pub returns-in_err-line-clause-prefix : goal.returns-in_err-line-clause-prefix
returns-in_err-line-clause-prefix g c =
    on_err c.from_residual.result _ (cut_before c.args.observer.now.hierarchy.now c.args.observer.now.program.now c.args.observer.now.principal c.args.pairs.now c.loop-pair.pair-index _ _ _ c.loop-pair.invariant.held)

pub returns-in_err-extend_from_slice-clause-prefix : goal.returns-in_err-extend_from_slice-clause-prefix
returns-in_err-extend_from_slice-clause-prefix g c =
    on_err c.from_residual-in_err-extend_from_slice.result _ (cut_before c.args.observer.now.hierarchy.now c.args.observer.now.program.now c.args.observer.now.principal c.args.pairs.now c.loop-pair.pair-index _ _ _ c.loop-pair.invariant.held)

pub returns-in_err-write_all-clause-prefix : goal.returns-in_err-write_all-clause-prefix
returns-in_err-write_all-clause-prefix g c =
    on_err c.from_residual-in_err-write_all.result _
    (cut_within c.args.observer.now.hierarchy.now c.args.observer.now.program.now c.args.observer.now.principal c.args.pairs.now (c.loop-pair.pair-index + 1) _ _ _ c.deref.result.now
    (same_held c.args.observer.now.hierarchy.now c.args.observer.now.program.now c.args.observer.now.principal (take (c.loop-pair.pair-index + 1) c.args.pairs.now) _ _ _ c.deref.result.now (c.deref.ensures.value ∙ c.in_ok-extend_from_slice.ensures.items)
    (one_held c.args.observer.now.hierarchy.now c.args.observer.now.program.now c.args.observer.now.principal c.args.pairs.now c.loop-pair.pair-index _ _ _ c.loop-pair.lines.items c.as_bytes.result.now c.loop-pair-test.true
    (sym c.sees.ensures ∙ c.if-sees.true) (c.as_bytes.ensures.value ∙ c.in_ok-line.ensures) c.loop-pair.invariant.held))
    c.in_err-write_all.ensures.prefix)

pub returns-in_err-write_all-2-clause-prefix : goal.returns-in_err-write_all-2-clause-prefix
returns-in_err-write_all-2-clause-prefix g c =
    on_err c.from_residual-in_err-write_all-2.result _
    (cut_within c.args.observer.now.hierarchy.now c.args.observer.now.program.now c.args.observer.now.principal c.args.pairs.now c.loop-pair.pair-index _ _ _ c.deref-2.result.now
    (same_held c.args.observer.now.hierarchy.now c.args.observer.now.program.now c.args.observer.now.principal (take c.loop-pair.pair-index c.args.pairs.now) _ _ _ c.deref-2.result.now c.deref-2.ensures.value c.loop-pair.invariant.held)
    c.in_err-write_all-2.ensures.prefix)
