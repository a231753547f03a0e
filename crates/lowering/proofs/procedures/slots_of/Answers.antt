use Rattle.resolved.specs.ProgramOf.{slot_entry}
use Rattle.lowering.specs.Interface.{slot_contents}
use Rattle.lowering.proofs.Lists.{made_more}
use Rattle.lowering.proofs.procedures.slots_of.Goals as goal

pub loop-slot-preserved : goal.loop-slot-preserved
loop-slot-preserved c = λ labels.
    made_more (slot_entry labels) slot_contents c.args.slots.now c.loop-slot.made.items c.push.new.self.items c.loop-slot.slot-index c.slot-item.result c.declared_slot.result
    c.loop-slot-test.true c.slot-item.is c.in_ok-push.ensures.items (c.loop-slot.invariant labels) c.declared_slot.ensures
