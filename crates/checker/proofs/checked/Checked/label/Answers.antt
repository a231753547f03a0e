use Rattle.std.proofs.Common.{◌<◌, ◌≡◌, ◌∙◌, List, ap, arith, get_or, length, subst, sym}
use Rattle.resolved.specs.CoreOf.{program_of}
use Rattle.resolved.specs.declared.tables.Procedure.{Procedure}
use Rattle.resolved.specs.declared.tables.Slot.{Slot}
use Rattle.gathering.specs.Names.{unknowns_before}
use Rattle.checker.specs.Checked.{CheckedProgram}
use Rattle.checker.proofs.Locals.{local-few}
use Rattle.checker.proofs.checked.Checked.label.Goals as goal

pub overflow_add-first : goal.overflow_add-first
overflow_add-first c =
    let core = c.self.inside.core in
    let f = c.args.procedure in
    let entry = c.in-Some.entry.now in
    let within : f < length core.procedures.items = subst (λ (list : List Procedure). f < length list) c.deref.ensures.value c.in-Some.ensures.lookup.3.0 in
    let is : entry ≡ get_or core.procedures.items f entry = c.in-Some.ensures.lookup.1 ∙ ap (λ (list : List Procedure). get_or list f entry) c.deref.ensures.value in
    let inside : c.args.slot < length entry.slots.items = subst (λ (list : List Slot). c.args.slot < length list) c.deref-2.ensures.value c.in-Some-get.ensures.lookup.3.0 in
    let first : c.first_unknown-first.result ≡ unknowns_before (program_of core) f =
    c.first_unknown-first.ensures ∙ ap (λ (checked : CheckedProgram). unknowns_before (program_of checked.core) f) (sym c.self.view_is) in
    omega (arith, local-few core f c.args.slot entry within is inside, first)
