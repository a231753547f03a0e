use Rattle.std.proofs.Common.{◌≡◌, ◌<◌, ◌∙◌, List, ap, arith, get_or, length, refl, subst}
use Rattle.resolved.specs.CoreOf.{program_of}
use Rattle.resolved.specs.declared.program.Core.{Core}
use Rattle.resolved.specs.declared.tables.Procedure.{Procedure}
use Rattle.explaining.specs.Locals.{unlabelled_locals}
use Rattle.explaining.proofs.Lists.{part_of_none, writes_none, writes_procedure, writes_some_procedures}
use Rattle.gathering.proofs.Before.{before-here, before-next}
use Rattle.gathering.proofs.Few.{core-few}
use Rattle.explaining.proofs.labels_of_locals.write_labels.Goals as goal
use Rattle.channels.proofs.Views.{on_err}

pub returns-in_err-marked-clause-prefix : goal.returns-in_err-marked-clause-prefix
returns-in_err-marked-clause-prefix g c =
    on_err c.from_residual.result _
    (part_of_none c.args.source.now c.args.checked.now (unlabelled_locals (program_of c.args.checked.now.core)) _)

pub loop-number-init : goal.loop-number-init
loop-number-init g c = record { written = writes_none c.args.source.now c.args.checked.now _ refl _; counted = refl }

pub returns-in_err-write_all-clause-prefix : goal.returns-in_err-write_all-clause-prefix
returns-in_err-write_all-clause-prefix g c =
    let procedures = c.args.checked.now.core.procedures.items in
    let number = c.loop-number.number in
    let here = c.procedure-item.result in
    let within : number < length procedures =
    subst (λ (list : List Procedure). number < length list) (c.deref-procedure-items.ensures.value ∙ ap (λ (core : Core). core.procedures.items) c.core-core.ensures.core) c.loop-number-test.true in
    let is : here ≡ get_or procedures number here = c.procedure-item.is ∙ ap (λ list. get_or list number here) (c.deref-procedure-items.ensures.value ∙ ap (λ (core : Core). core.procedures.items) c.core-core.ensures.core) in
    on_err c.from_residual-in_err-write_all.result _
    (writes_some_procedures c.args.source.now c.args.checked.now procedures number here c.as_slice-slots.result.now _ _ _ within is c.as_slice-slots.ensures.value
    c.loop-number.invariant.written _ c.in_ok-marked.ensures c.in_err-write_all.ensures.prefix)

pub loop-number-preserved : goal.loop-number-preserved
loop-number-preserved g c =
    let procedures = c.args.checked.now.core.procedures.items in
    let number = c.loop-number.number in
    let here = c.procedure-item.result in
    let within : number < length procedures =
    subst (λ (list : List Procedure). number < length list) (c.deref-procedure-items.ensures.value ∙ ap (λ (core : Core). core.procedures.items) c.core-core.ensures.core) c.loop-number-test.true in
    let is : here ≡ get_or procedures number here = c.procedure-item.is ∙ ap (λ list. get_or list number here) (c.deref-procedure-items.ensures.value ∙ ap (λ (core : Core). core.procedures.items) c.core-core.ensures.core) in
    record {
      written =
          writes_procedure c.args.source.now c.args.checked.now procedures number here c.as_slice-slots.result.now _ _ _ within is c.as_slice-slots.ensures.value
          c.loop-number.invariant.written _ c.in_ok-marked.ensures c.in_ok-write_all.ensures.accepted;
      counted = before-next c.args.checked.now.core.labels procedures number c.loop-number.first c.loop-number.invariant.counted here c.first_after-first.result within is c.first_after-first.ensures;
    }

pub write_all-requires-clause-first : goal.write_all-requires-clause-first
write_all-requires-clause-first g c =
    before-here c.args.checked.now.core.labels c.args.checked.now.core.procedures.items c.loop-number.number c.loop-number.first c.loop-number.invariant.counted

pub write_all-requires-clause-few : goal.write_all-requires-clause-few
write_all-requires-clause-few g c =
    let procedures = c.args.checked.now.core.procedures.items in
    let number = c.loop-number.number in
    let here = c.procedure-item.result in
    let same = c.deref-procedure-items.ensures.value ∙ ap (λ (core : Core). core.procedures.items) c.core-core.ensures.core in
    let within : number < length procedures = subst (λ (list : List Procedure). number < length list) same c.loop-number-test.true in
    let is : here ≡ get_or procedures number here = c.procedure-item.is ∙ ap (λ list. get_or list number here) same in
    let few = core-few c.args.checked.now.core number c.loop-number.first here c.loop-number.invariant.counted within is in
    omega (arith, few, ap length c.as_slice-slots.ensures.value)

pub first_after-first-requires : goal.first_after-first-requires
first_after-first-requires g c =
    let procedures = c.args.checked.now.core.procedures.items in
    let number = c.loop-number.number in
    let here = c.procedure-item.result in
    let same = c.deref-procedure-items.ensures.value ∙ ap (λ (core : Core). core.procedures.items) c.core-core.ensures.core in
    let within : number < length procedures = subst (λ (list : List Procedure). number < length list) same c.loop-number-test.true in
    let is : here ≡ get_or procedures number here = c.procedure-item.is ∙ ap (λ list. get_or list number here) same in
    let few = core-few c.args.checked.now.core number c.loop-number.first here c.loop-number.invariant.counted within is in
    omega (arith, few)
