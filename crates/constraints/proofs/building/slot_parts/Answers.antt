use Rattle.std.proofs.Common.{◌∙◌, ap, map, refl}
use Rattle.std.proofs.lemmas.List.{take_all}
use Rattle.resolved.specs.ProgramOf.{slot_entry}
use Rattle.constraints.specs.Rows.{slot_parts}
use Rattle.constraints.proofs.Tables.{slots-next}
use Rattle.constraints.proofs.building.slot_parts.Goals as goal

pub loop-i-preserved : goal.loop-i-preserved
loop-i-preserved c =
    slots-next c.args.labels.now c.args.slots.now c.loop-i.i c.index-slots-i.result c.args.first _ _ _ _ c.loop-i-test.true c.index-slots-i.is refl
    c.in_ok-push.ensures.items c.loop-i.invariant c.slot_part.ensures

pub returns : goal.returns
returns c =
    c.loop-i.invariant
    ∙ ap (λ slots. slot_parts c.args.first (map (slot_entry c.args.labels.now) slots)) (take_all c.loop-i.i c.args.slots.now c.loop-i-test.false)
