use Rattle.std.proofs.Common.{refl, arith}
use Rattle.stack.proofs.Cuts.{step_within, total_next}
use Rattle.stack.proofs.shape.cells_of.Goals as goal

pub overflow_add-size : goal.overflow_add-size
overflow_add-size c =
    omega (arith, c.requires, step_within c.args.slots.now c.loop-slot.slot-index _ c.loop-slot.size c.count_of-size.result c.loop-slot-test.true c.loop-slot.invariant c.count_of-size.ensures.cells)

pub loop-slot-preserved : goal.loop-slot-preserved
loop-slot-preserved c =
    total_next c.args.slots.now c.loop-slot.slot-index _ c.loop-slot.size _ c.count_of-size.result c.loop-slot-test.true c.loop-slot.invariant c.count_of-size.ensures.cells refl
