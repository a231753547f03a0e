use Rattle.std.proofs.Common.{◌∙◌, List, ℕ, subst, sym}
use Rattle.resolved.specs.ProgramOf.{slot_entry}
use Rattle.explaining.specs.Locals.{IsLocalLine, if_unlabelled, local_of}
use Rattle.explaining.proofs.Lists.{part_of_none, some-written, with_label, writes_none, writes_one, writes_part}
use Rattle.explaining.proofs.labels_of_locals.Locals.write.Goals as goal
use Rattle.channels.proofs.Views.{on_err}

pub returns-then-is_some-clause-accepted : goal.returns-then-is_some-clause-accepted
returns-then-is_some-clause-accepted g c =
    let slot = slot_entry c.args.self.now.checked.now.core.labels c.args.slot.now in
    let local = local_of c.args.self.now.procedure c.args.number slot in
    writes_none c.args.self.now.marked.now.text.now c.args.self.now.checked.now (if_unlabelled local slot.written)
    (with_label local slot.written (some-written c.args.self.now.checked.now.core.labels c.args.slot.now.written ∙ (sym c.is_some.ensures ∙ c.if-is_some.true))) _

pub returns-in_err-line-clause-prefix : goal.returns-in_err-line-clause-prefix
returns-in_err-line-clause-prefix g c =
    let slot = slot_entry c.args.self.now.checked.now.core.labels c.args.slot.now in
    on_err c.from_residual.result _
    (part_of_none c.args.self.now.marked.now.text.now c.args.self.now.checked.now (if_unlabelled (local_of c.args.self.now.procedure c.args.number slot) slot.written) _)

pub returns-in_err-write_all-clause-prefix : goal.returns-in_err-write_all-clause-prefix
returns-in_err-write_all-clause-prefix g c =
    let slot = slot_entry c.args.self.now.checked.now.core.labels c.args.slot.now in
    let local = local_of c.args.self.now.procedure c.args.number slot in
    on_err c.from_residual-in_err-write_all.result _
    (writes_part c.args.self.now.marked.now.text.now c.args.self.now.checked.now _ _ local slot.written (some-written c.args.self.now.checked.now.core.labels c.args.slot.now.written ∙ (sym c.is_some.ensures ∙ c.if-is_some.false)) c.as_bytes.result.now
    (subst (λ (line : List ℕ). IsLocalLine c.args.self.now.marked.now.text.now c.args.self.now.checked.now local line) (sym c.as_bytes.ensures.value) c.in_ok-line.ensures)
    c.in_err-write_all.ensures.prefix)

pub returns-clause-accepted : goal.returns-clause-accepted
returns-clause-accepted g c =
    let slot = slot_entry c.args.self.now.checked.now.core.labels c.args.slot.now in
    let local = local_of c.args.self.now.procedure c.args.number slot in
    writes_one c.args.self.now.marked.now.text.now c.args.self.now.checked.now _ _ local slot.written (some-written c.args.self.now.checked.now.core.labels c.args.slot.now.written ∙ (sym c.is_some.ensures ∙ c.if-is_some.false)) c.as_bytes.result.now
    (subst (λ (line : List ℕ). IsLocalLine c.args.self.now.marked.now.text.now c.args.self.now.checked.now local line) (sym c.as_bytes.ensures.value) c.in_ok-line.ensures)
    c.in_ok-write_all.ensures.accepted
