use Rattle.std.proofs.Common.{refl}
use Rattle.explaining.proofs.Lists.{writes_none, writes_slot, writes_some_slots}
use Rattle.explaining.proofs.labels_of_locals.Locals.write_all.Goals as goal
use Rattle.channels.proofs.Views.{on_err}

pub loop-number-init : goal.loop-number-init
loop-number-init g c = writes_none c.args.self.now.marked.now.text.now c.args.self.now.checked.now _ refl _

pub returns-in_err-write-clause-prefix : goal.returns-in_err-write-clause-prefix
returns-in_err-write-clause-prefix g c =
    on_err c.from_residual.result _
    (writes_some_slots c.args.self.now.marked.now.text.now c.args.self.now.checked.now c.args.self.now.procedure c.args.slots.now c.loop-number.number c.index-slots-number.result _ _ _
    c.loop-number-test.true c.index-slots-number.is c.loop-number.invariant c.in_err-write.ensures.prefix)

pub loop-number-preserved : goal.loop-number-preserved
loop-number-preserved g c =
    writes_slot c.args.self.now.marked.now.text.now c.args.self.now.checked.now c.args.self.now.procedure c.args.slots.now c.loop-number.number c.index-slots-number.result _ _ _
    c.loop-number-test.true c.index-slots-number.is c.loop-number.invariant c.in_ok-write.ensures.accepted
