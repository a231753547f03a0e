use Rattle.std.proofs.Common.{get_or, sym}
use Rattle.std.proofs.lemmas.List.{get_or_default}
use Rattle.solver.specs.declared.constraints.Atom.TheVariants as stored
use Rattle.constraints.specs.Journals.{HasOneExitUnknown}
use Rattle.constraints.specs.declared.rows.ThrownLabel.{ThrownLabel}
use Rattle.constraints.proofs.OneExitUnknown.{parted-all, parted-next}
use Rattle.constraints.proofs.spreading.Spreading.parted.Goals as goal

pub loop-thrown-preserved : goal.loop-thrown-preserved
loop-thrown-preserved c =
    let none : ThrownLabel = record { exception = 0; label = stored.Written 0 } in
    parted-next (λ (x : ThrownLabel). HasOneExitUnknown c.args.self.now.journal.now c.args.calls.now x.exception) c.args.labels.now c.loop-thrown.fixed.items c.loop-thrown.varied.items _ _
    c.loop-thrown.thrown-index (get_or c.args.labels.now c.loop-thrown.thrown-index none) c.has_one_exit_unknown-one.result c.loop-thrown-test.true
    (λ d. sym (get_or_default c.args.labels.now c.loop-thrown.thrown-index none d c.loop-thrown-test.true))
    (λ e. c.has_one_exit_unknown-one.ensures e c.args.calls.now c.args.barrier c.are_together-under.ensures c.range_of-first.ensures.first c.range_of-first.ensures.last)
    c.in_ok-put.ensures.fixed c.in_ok-put.ensures.varied c.loop-thrown.invariant

pub returns-clause-all : goal.returns-clause-all
returns-clause-all c =
    parted-all (λ (x : ThrownLabel). HasOneExitUnknown c.args.self.now.journal.now c.args.calls.now x.exception) c.args.labels.now c.loop-thrown.fixed.items c.loop-thrown.varied.items
    c.loop-thrown.thrown-index c.loop-thrown-test.false c.loop-thrown.invariant
