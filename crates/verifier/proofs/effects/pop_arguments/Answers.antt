use Rattle.std.proofs.Common.{rules, ◌≡◌, ◌-◌, ◌+◌, ◌*◌, ◌<◌, min, length, drop, map, Some, arith, ap, sym, ◌∙◌}
use Rattle.common.specs.declared.base_type.BaseType.TheVariants.{Int}
use Rattle.modules.specs.declared.declaration.Slot.TheVariants.{Scalar}
use Rattle.verifier.specs.Flow.{all_popped}
use Rattle.verifier.specs.Operands.{full_blocks, list_of}
use Rattle.verifier.proofs.Arguments.{pop_step, pop_fail, popped_inside, popped_left, reversed}
use Rattle.verifier.proofs.effects.pop_arguments.Goals as goal

pub overflow_mul-count : goal.overflow_mul-count
overflow_mul-count c =
    omega (arith, c.min.type_inv, popped_inside c.slots-slots.result.now c.args.callee.now.parameters c.min.result c.pop_blocks-below.result.1 c.args.blocks.now (c.requires.blocks ∙ ap (λ s. full_blocks (reversed c.args.callee.now.parameters s)) (sym c.slots-slots.ensures)) (c.min.ensures ∙ ap (min (length c.slots-slots.result.now)) c.parameters.ensures) c.pop_blocks-below.ensures.few)

pub overflow_sub-count : goal.overflow_sub-count
overflow_sub-count c =
    popped_inside c.slots-slots.result.now c.args.callee.now.parameters c.min.result c.pop_blocks-below.result.1 c.args.blocks.now (c.requires.blocks ∙ ap (λ s. full_blocks (reversed c.args.callee.now.parameters s)) (sym c.slots-slots.ensures)) (c.min.ensures ∙ ap (min (length c.slots-slots.result.now)) c.parameters.ensures) c.pop_blocks-below.ensures.few

pub loop-count-init : goal.loop-count-init
loop-count-init c =
    let least = c.min.ensures in
    record {
      inside = omega (arith, least);
      there = c.pop_blocks-below.ensures.there;
      fewer = c.pop_blocks-below.ensures.fewer;
      same =
          c.pop_blocks-below.ensures.same (reversed c.args.callee.now.parameters c.args.callee.now.slots) c.requires.blocks
          ∙ ap (λ kinds. all_popped (map (λ kind. Some kind) kinds) (list_of c.args.operands.now c.pop_blocks-below.result.0)) (ap (λ s. drop (c.pop_blocks-below.result.1 * 64) (reversed c.args.callee.now.parameters s)) (sym c.slots-slots.ensures)
          ∙ popped_left c.slots-slots.result.now c.args.callee.now.parameters c.min.result c.pop_blocks-below.result.1 c.args.blocks.now (c.requires.blocks ∙ ap (λ s. full_blocks (reversed c.args.callee.now.parameters s)) (sym c.slots-slots.ensures)) (c.min.ensures ∙ ap (min (length c.slots-slots.result.now)) c.parameters.ensures) c.pop_blocks-below.ensures.few);
    }

pub loop-count-preserved : goal.loop-count-preserved
loop-count-preserved c =
    let v = c.loop-count.invariant in
    let less : c.loop-count.count ≡ c.loop-count.count - 1 + 1 = omega (arith, c.loop-count-test.true) in
    let inside : c.loop-count.count - 1 < length c.slots-slots.result.now = omega (arith, v.inside, c.loop-count-test.true) in
    record {
      inside = omega (arith, v.inside);
      there = c.in_ok-rest.ensures.there;
      fewer = omega (arith, v.fewer, c.in_ok-rest.ensures.fewer);
      same = v.same ∙ pop_step c.slots-slots.result.now (c.loop-count.count - 1) c.loop-count.count (Scalar Int) less inside c.kind.result c.kind.ensures (list_of c.args.operands.now c.loop-count.rest) (list_of c.args.operands.now c.in_ok-rest.rest) c.in_ok-rest.ensures.accepted;
    }

pub returns-in_err-rest-clause-rejected : goal.returns-in_err-rest-clause-rejected
returns-in_err-rest-clause-rejected c =
    let v = c.loop-count.invariant in
    let less : c.loop-count.count ≡ c.loop-count.count - 1 + 1 = omega (arith, c.loop-count-test.true) in
    let inside : c.loop-count.count - 1 < length c.slots-slots.result.now = omega (arith, v.inside, c.loop-count-test.true) in
    let missed = v.same ∙ pop_fail c.slots-slots.result.now (c.loop-count.count - 1) c.loop-count.count (Scalar Int) less inside c.kind.result c.kind.ensures (list_of c.args.operands.now c.loop-count.rest) c.in_err-rest.field-0.0 c.in_err-rest.ensures.rejected in
    search (rules, missed)
