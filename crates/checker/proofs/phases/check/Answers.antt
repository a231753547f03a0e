use Rattle.std.proofs.Common.{subst, sym}
use Rattle.common.specs.Answers.{IfRefused}
use Rattle.principals.specs.ActsFor.{IsHierarchy}
use Rattle.resolved.specs.CoreOf.{program_of}
use Rattle.acceptance.proofs.Phases.{accepted_refused}
use Rattle.acceptance.specs.Accepted.{IsAccepted}
use Rattle.checker.specs.Found.{IsFoundRefusal}
use Rattle.checker.specs.Steps.{RefusesProgram}
use Rattle.checker.proofs.Verdicts.{accepted-from, flow-fault, refused-not-accepted}
use Rattle.checker.proofs.phases.check.Goals as goal

pub returns-in-Err-Refused-clause-rejected : goal.returns-in-Err-Refused-clause-rejected
returns-in-Err-Refused-clause-rejected c = λ program accepted.
    accepted_refused c.args.hierarchy.now c.args.source.now program c.in-Err-Refused.field-0-0.kind c.in-Err-Refused.field-0-0.at accepted
    (subst (IfRefused (IsFoundRefusal c.args.hierarchy.now c.args.source.now)) c.in-Err-Refused.field-0-is c.in-Err-Refused.ensures.first_fault)

pub find_labels-requires-clause-names : goal.find_labels-requires-clause-names
find_labels-requires-clause-names c =
    c.resolved_programs_have_names.ensures.names c.args.hierarchy.now c.args.source.now (program_of c.in-Ok.analysed.core)
    c.count-count.ensures.kept c.count-count.ensures.named c.in-Ok.ensures.resolved

pub returns-in-Ok-find_labels-clause-accepted : goal.returns-in-Ok-find_labels-clause-accepted
returns-in-Ok-find_labels-clause-accepted c =
    accepted-from c.args.hierarchy.now c.args.source.now c.in-Ok.analysed.core c.in-Ok-find_labels.checked.core c.in-Ok-find_labels.ensures.core c.in-Ok.ensures.resolved c.in-Ok.ensures.ended
    c.in-Ok-find_labels.ensures.checked.labelled

pub returns-in-Ok-find_labels-clause-least : goal.returns-in-Ok-find_labels-clause-least
returns-in-Ok-find_labels-clause-least c = c.in-Ok-find_labels.ensures.checked.least

pub returns-in-Ok-find_labels-clause-isolated : goal.returns-in-Ok-find_labels-clause-isolated
returns-in-Ok-find_labels-clause-isolated c =
    let kept = c.in-Ok-find_labels.checked.core in
    let accepted : IsAccepted c.args.hierarchy.now c.args.source.now (program_of kept) =
    accepted-from c.args.hierarchy.now c.args.source.now c.in-Ok.analysed.core kept c.in-Ok-find_labels.ensures.core c.in-Ok.ensures.resolved c.in-Ok.ensures.ended
    c.in-Ok-find_labels.ensures.checked.labelled in
    c.labelled_programs_are_isolated.ensures (program_of kept) accepted.ended c.in-Ok-find_labels.ensures.checked.labelled

pub returns-in-Ok-find_labels-clause-larger : goal.returns-in-Ok-find_labels-clause-larger
returns-in-Ok-find_labels-clause-larger c =
    let kept = c.in-Ok-find_labels.checked.core in
    let accepted : IsAccepted c.args.hierarchy.now c.args.source.now (program_of kept) =
    accepted-from c.args.hierarchy.now c.args.source.now c.in-Ok.analysed.core kept c.in-Ok-find_labels.ensures.core c.in-Ok.ensures.resolved c.in-Ok.ensures.ended
    c.in-Ok-find_labels.ensures.checked.labelled in
    let same = c.resolved_programs_have_names.ensures.hierarchy c.args.source.now c.args.hierarchy.now (program_of kept) accepted.resolved in
    c.labelled_programs_stay_isolated.ensures.by_name (program_of kept) accepted.ended c.in-Ok-find_labels.ensures.checked.labelled
    (subst IsHierarchy (sym same) c.count-count.ensures.kept)

pub returns-in-Err-Refused-find_labels-clause-first_fault : goal.returns-in-Err-Refused-find_labels-clause-first_fault
returns-in-Err-Refused-find_labels-clause-first_fault c =
    rw c.refusal_at-refusal-in-Err-Refused-find_labels.ensures
    (flow-fault c.args.hierarchy.now c.args.source.now _ c.in-Ok.analysed.core c.in-Err-Refused-find_labels.flow
    c.as_bytes-bytes-in-Err-Refused-find_labels.ensures.value c.in-Ok.ensures.resolved c.in-Ok.ensures.ended
    (subst (IfRefused (RefusesProgram c.in-Ok.analysed.core)) c.in-Err-Refused-find_labels.field-0-is c.in-Err-Refused-find_labels.ensures.rejected))

pub returns-in-Err-Refused-find_labels-clause-rejected : goal.returns-in-Err-Refused-find_labels-clause-rejected
returns-in-Err-Refused-find_labels-clause-rejected c =
    refused-not-accepted c.args.hierarchy.now c.args.source.now _
    (flow-fault c.args.hierarchy.now c.args.source.now _ c.in-Ok.analysed.core c.in-Err-Refused-find_labels.flow
    c.as_bytes-bytes-in-Err-Refused-find_labels.ensures.value c.in-Ok.ensures.resolved c.in-Ok.ensures.ended
    (subst (IfRefused (RefusesProgram c.in-Ok.analysed.core)) c.in-Err-Refused-find_labels.field-0-is c.in-Err-Refused-find_labels.ensures.rejected))
