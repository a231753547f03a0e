use Rattle.std.proofs.Common.{get_or, sym, ◌∙◌}
use Rattle.std.proofs.lemmas.List.{get_or_default}
use Rattle.solver.specs.declared.constraints.Atom.TheVariants as stored
use Rattle.constraints.specs.declared.rows.ThrownLabel.{ThrownLabel}
use Rattle.constraints.proofs.FixedFlows.{fixed-next}
use Rattle.constraints.proofs.spreading.Spreading.add_fixed.Goals as goal

pub loop-thrown-preserved : goal.loop-thrown-preserved
loop-thrown-preserved c = record {
  number = c.in_ok-add_one.ensures.number ∙ c.loop-thrown.invariant.number;
  added = λ callee number part labelled.
      let none : ThrownLabel = record { exception = 0; label = stored.Written 0 } in
      fixed-next c.args.self.now.table.now.core.now c.args.self.now.table.now.core.now.labels c.args.self.now.journal.now c.args.called callee number c.args.fixed.now
      c.loop-thrown.thrown-index (get_or c.args.fixed.now c.loop-thrown.thrown-index none) c.args.node c.entry-entry.result c.exit_unknown_in.result _ _ _
      c.loop-thrown-test.true (λ d. sym (get_or_default c.args.fixed.now c.loop-thrown.thrown-index none d c.loop-thrown-test.true)) part labelled
      c.entry-entry.ensures c.exit_unknown_in.ensures (c.loop-thrown.invariant.added callee number part labelled) c.in_ok-add_one.ensures.added;
}
