use Rattle.std.proofs.Common.{rules, ◌∙◌, min, length, ap, subst}
use Rattle.common.specs.declared.base_type.BaseType.TheVariants.{Int}
use Rattle.modules.specs.declared.declaration.Slot.TheVariants.{Scalar}
use Rattle.verifier.proofs.Arguments.{IsPacking, reversed, packing_start, packing_more}
use Rattle.verifier.proofs.parameters.Parameters.of.Goals as goal

pub loop-count-init : goal.loop-count-init
loop-count-init c =
    subst (λ s. IsPacking (reversed c.args.procedure.now.parameters s) c.slots-slots.result.now c.new-blocks.result.items c.min-count.result) c.slots-slots.ensures
    (packing_start c.slots-slots.result.now c.args.procedure.now.parameters c.min-count.result c.new-blocks.result.items (c.min-count.ensures ∙ ap (min (length c.slots-slots.result.now)) c.parameters.ensures) c.new-blocks.ensures.items)

pub loop-count-preserved : goal.loop-count-preserved
loop-count-preserved c =
    packing_more (reversed c.args.procedure.now.parameters c.args.procedure.now.slots) c.slots-slots.result.now c.loop-count.blocks.items c.push.new.self.items c.block_of.result c.loop-count.count (Scalar Int) c.loop-count.invariant c.loop-count-test.true c.block_of.ensures (search rules)
