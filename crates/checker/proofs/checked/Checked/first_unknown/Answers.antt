use Rattle.std.proofs.Common.{◌<◌, ◌≡◌, ◌∙◌, List, ap, get_or, length, map, subst, sym, take, arith}
use Rattle.std.specs.Prelude.{sum_by}
use Rattle.labels.specs.Label.{Label}
use Rattle.resolved.specs.CoreOf.{program_of}
use Rattle.resolved.specs.declared.tables.Procedure.{Procedure}
use Rattle.resolved.specs.ProgramOf.{procedure_entry}
use Rattle.gathering.specs.Names.{own_unknowns, unknowns_before}
use Rattle.gathering.proofs.Few.{core-few}
use Rattle.checker.specs.Checked.{CheckedProgram}
use Rattle.checker.proofs.Unknowns.{counted-here}
use Rattle.checker.proofs.checked.Checked.first_unknown.Goals as goal

pub returns-then-number-procedure : goal.returns-then-number-procedure
returns-then-number-procedure c =
    counted-here c.self.inside.core.labels c.self.inside.core.procedures.items c.deref-entry-items.result.now c.loop-number.number c.args.procedure c.loop-number.first
    c.deref-entry-items.ensures.value c.if-number-procedure.true
    (subst (λ (labels : List Label). c.loop-number.first ≡ sum_by own_unknowns (map (procedure_entry labels) (take c.loop-number.number c.deref-entry-items.result.now)))
    (ap (λ (checked : CheckedProgram). checked.core.labels) (sym c.self.view_is)) c.loop-number.invariant.count)
    ∙ ap (λ (checked : CheckedProgram). unknowns_before (program_of checked.core) c.args.procedure) c.self.view_is

pub first_after-first-requires : goal.first_after-first-requires
first_after-first-requires c =
    let procedures = c.self.inside.core.procedures.items in
    let number = c.loop-number.number in
    let here = c.entry-item.result in
    let within : number < length procedures =
    subst (λ (list : List Procedure). number < length list) c.deref-entry-items.ensures.value c.loop-number-test.true in
    let is : here ≡ get_or procedures number here = c.entry-item.is ∙ ap (λ list. get_or list number here) c.deref-entry-items.ensures.value in
    let counted : c.loop-number.first ≡ sum_by own_unknowns (map (procedure_entry c.self.inside.core.labels) (take number procedures)) =
    subst (λ (list : List Procedure). c.loop-number.first ≡ sum_by own_unknowns (map (procedure_entry c.self.inside.core.labels) (take number list)))
    c.deref-entry-items.ensures.value
    (subst (λ (labels : List Label). c.loop-number.first ≡ sum_by own_unknowns (map (procedure_entry labels) (take number c.deref-entry-items.result.now)))
    (ap (λ (checked : CheckedProgram). checked.core.labels) (sym c.self.view_is)) c.loop-number.invariant.count) in
    omega (arith, core-few c.self.inside.core number c.loop-number.first here counted within is)
