use Rattle.std.proofs.Common.{map, take, refl, arith}
use Rattle.stack.specs.Slab.{cells_in, total}
use Rattle.stack.proofs.Cuts.{of_step, step_within}
use Rattle.stack.proofs.shape.spans_of.Goals as goal

pub overflow_add-start : goal.overflow_add-start
overflow_add-start c =
    let slots = c.args.slots.now in
    let before = total (map cells_in (take c.loop-slot.slot-index slots)) in
    let within = step_within slots c.loop-slot.slot-index _ before c.count_of-count.result c.loop-slot-test.true refl c.count_of-count.ensures.cells in
    omega (arith, c.requires, c.loop-slot.invariant.start_is, within)

pub loop-slot-preserved : goal.loop-slot-preserved
loop-slot-preserved c =
    let step = of_step c.args.scalars c.args.slots.now c.loop-slot.slot-index _ c.loop-slot.spans.items c.push.new.self.items c.loop-slot.start _ c.count_of-count.result
    c.loop-slot-test.true c.loop-slot.invariant.spans_are c.loop-slot.invariant.start_is c.count_of-count.ensures.cells refl c.in_ok-push.ensures.items in
    record { spans_are = step.0; start_is = step.1 }
