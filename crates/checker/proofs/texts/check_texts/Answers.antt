use Rattle.std.proofs.Common.{subst}
use Rattle.std.proofs.lemmas.Result.{err_from_is_err_and}
use Rattle.common.proofs.Casting.{refused-weaker}
use Rattle.common.specs.Answers.{IfRefused}
use Rattle.acceptance.specs.Accepted.{IsAccepted}
use Rattle.acceptance.proofs.Phases.{accepted_stand}
use Rattle.resolved.specs.CoreOf.{program_of}
use Rattle.acceptance.specs.declared.kind.Text.TheVariants as texts
use Rattle.checker.specs.Read.{IsUnread}
use Rattle.checker.specs.Reported.{HasFlow, IsFirstFault, IsSourceFault, StandForNone}
use Rattle.checker.proofs.Refusals.{in_source, stand_for_none, unread_no_flow, unread_source}
use Rattle.checker.proofs.texts.check_texts.Goals as goal

pub returns-in_err-principals-clause-first_fault : goal.returns-in_err-principals-clause-first_fault
returns-in_err-principals-clause-first_fault c =
    let p = err_from_is_err_and c.from_residual.result c.from_residual.ensures.1 in
    rw (p.1, p.2) (c.in_err-principals.ensures.first_fault c.args.source.now)

pub returns-in_err-principals-clause-rejected : goal.returns-in_err-principals-clause-rejected
returns-in_err-principals-clause-rejected c =
    let p = err_from_is_err_and c.from_residual.result c.from_residual.ensures.1 in
    let hierarchy = c.args.hierarchy.now in
    let source = c.args.source.now in
    rw (p.1, p.2) (refused-weaker (IsFirstFault hierarchy source) (λ _. StandForNone hierarchy source)
    (λ r first. stand_for_none c.one_verdict.ensures.one hierarchy source r first) c.in_err-principals.field-0.0
    (c.in_err-principals.ensures.first_fault source))

pub returns-in_err-text-clause-first_fault : goal.returns-in_err-text-clause-first_fault
returns-in_err-text-clause-first_fault c =
    let p = err_from_is_err_and c.from_residual-in_err-text.result c.from_residual-in_err-text.ensures.1 in
    let hierarchy = c.args.hierarchy.now in
    let source = c.args.source.now in
    let h = c.in_ok-principals.principals in
    rw (p.1, p.2) (refused-weaker (IsUnread texts.Source source) (IsFirstFault hierarchy source)
    (λ r unread. in_source hierarchy source h c.in_ok-principals.ensures.has r (unread_source h source r unread)) c.in_err-text.field-0.0
    c.in_err-text.ensures.none)

pub returns-in_err-text-clause-rejected : goal.returns-in_err-text-clause-rejected
returns-in_err-text-clause-rejected c =
    let p = err_from_is_err_and c.from_residual-in_err-text.result c.from_residual-in_err-text.ensures.1 in
    let hierarchy = c.args.hierarchy.now in
    let source = c.args.source.now in
    let h = c.in_ok-principals.principals in
    rw (p.1, p.2) (refused-weaker (IsUnread texts.Source source) (λ _. StandForNone hierarchy source)
    (λ r unread. stand_for_none c.one_verdict.ensures.one hierarchy source r
    (in_source hierarchy source h c.in_ok-principals.ensures.has r (unread_source h source r unread))) c.in_err-text.field-0.0
    c.in_err-text.ensures.none)

pub returns-in_err-text-clause-flow : goal.returns-in_err-text-clause-flow
returns-in_err-text-clause-flow c =
    let p = err_from_is_err_and c.from_residual-in_err-text.result c.from_residual-in_err-text.ensures.1 in
    rw (p.1, p.2) (refused-weaker (IsUnread texts.Source c.args.source.now) HasFlow (λ r unread. unread_no_flow texts.Source c.args.source.now r unread)
    c.in_err-text.field-0.0 c.in_err-text.ensures.none)

pub returns-in_err-checked-clause-first_fault : goal.returns-in_err-checked-clause-first_fault
returns-in_err-checked-clause-first_fault c =
    let p = err_from_is_err_and c.from_residual-in_err-checked.result c.from_residual-in_err-checked.ensures.1 in
    let hierarchy = c.args.hierarchy.now in
    let source = c.args.source.now in
    let h = c.in_ok-principals.principals in
    rw (p.1, p.2) (refused-weaker (IsSourceFault h source) (IsFirstFault hierarchy source)
    (λ r fault. in_source hierarchy source h c.in_ok-principals.ensures.has r fault) c.in_err-checked.field-0.0
    (subst (λ s. IfRefused (IsSourceFault h s) c.in_err-checked.field-0.0) c.in_ok-text.ensures.same c.in_err-checked.ensures.first_fault))

pub returns-in_err-checked-clause-rejected : goal.returns-in_err-checked-clause-rejected
returns-in_err-checked-clause-rejected c =
    let p = err_from_is_err_and c.from_residual-in_err-checked.result c.from_residual-in_err-checked.ensures.1 in
    let hierarchy = c.args.hierarchy.now in
    let source = c.args.source.now in
    let h = c.in_ok-principals.principals in
    rw (p.1, p.2) (refused-weaker (IsSourceFault h source) (λ _. StandForNone hierarchy source)
    (λ r fault. stand_for_none c.one_verdict.ensures.one hierarchy source r
    (in_source hierarchy source h c.in_ok-principals.ensures.has r fault)) c.in_err-checked.field-0.0
    (subst (λ s. IfRefused (IsSourceFault h s) c.in_err-checked.field-0.0) c.in_ok-text.ensures.same c.in_err-checked.ensures.first_fault))

pub returns-clause-accepted : goal.returns-clause-accepted
returns-clause-accepted c =
    accepted_stand c.args.hierarchy.now c.args.source.now c.in_ok-principals.principals (program_of c.in_ok-checked.checked.core) c.in_ok-principals.ensures.has
    (subst (λ s. IsAccepted c.in_ok-principals.principals s (program_of c.in_ok-checked.checked.core)) c.in_ok-text.ensures.same c.in_ok-checked.ensures.accepted)
