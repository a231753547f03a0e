use Rattle.std.proofs.Common.{refl, ◌∙◌}
use Rattle.constraints.proofs.Tables.{row-made}
use Rattle.constraints.proofs.building.row_of.Goals as goal

pub returns : goal.returns
returns c =
    row-made c.args.labels.now c.args.procedure.now c.args.first _ _ _ _ _ _ _ _ _
    c.label_part.ensures c.label_part-2.ensures c.value_part.ensures c.deref.ensures.value c.in_ok-slot_parts.ensures
    c.deref-2.ensures.value c.in_ok-thrown_labels.ensures.exceptions c.in_ok-thrown_labels.ensures.meaning (c.len.ensures ∙ c.args.procedure.now.slots.ok.0) refl
    _ refl refl refl refl refl refl refl
