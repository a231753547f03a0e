use Rattle.std.proofs.Common.{subst}
use Rattle.std.proofs.lemmas.Result.{err_from_is_err_and}
use Rattle.common.proofs.Casting.{refused-weaker}
use Rattle.common.specs.Answers.{IfRefused}
use Rattle.principals.specs.HierarchyText.{IsRefusedText}
use Rattle.acceptance.specs.Refused.{Wrong}
use Rattle.acceptance.specs.declared.kind.RefusalKind.TheVariants as kinds
use Rattle.acceptance.specs.declared.kind.Text.TheVariants as texts
use Rattle.checker.specs.Read.{IsUnread}
use Rattle.checker.specs.Reported.{HasNoHierarchy, IsFirstFault, IsHierarchyFault}
use Rattle.checker.proofs.Refusals.{faulty_no_hierarchy, in_hierarchy, unread_fault, unread_hierarchy}
use Rattle.checker.proofs.texts.read_hierarchy.Goals as goal

pub returns-in_err-text-clause-first_fault : goal.returns-in_err-text-clause-first_fault
returns-in_err-text-clause-first_fault c = λ source.
    let p = err_from_is_err_and c.from_residual.result c.from_residual.ensures.1 in
    let bytes = c.args.bytes.now in
    rw (p.1, p.2) (refused-weaker (IsUnread texts.Hierarchy bytes) (IsFirstFault bytes source) (λ r unread. unread_hierarchy bytes source r unread)
    c.in_err-text.field-0.0 c.in_err-text.ensures.none)

pub returns-in-Err-Refused-clause-first_fault : goal.returns-in-Err-Refused-clause-first_fault
returns-in-Err-Refused-clause-first_fault c = λ source.
    let bytes = c.args.bytes.now in
    let refusal = c.in-Err-Refused.refusal in
    let reported = subst (IfRefused (IsRefusedText c.in_ok-text.text.now)) c.in-Err-Refused.field-0-is c.in-Err-Refused.ensures.first_fault in
    let refused = subst (λ t. IsRefusedText t refusal) c.in_ok-text.ensures.same reported in
    rw c.refusal_at-refused.ensures
    (in_hierarchy bytes source (kinds.Hierarchy refusal.kind) refusal.at (Wrong c.in_ok-text.ensures.text refusal refused))

pub returns-in_err-text-clause-refused : goal.returns-in_err-text-clause-refused
returns-in_err-text-clause-refused c =
    let p = err_from_is_err_and c.from_residual.result c.from_residual.ensures.1 in
    let bytes = c.args.bytes.now in
    rw (p.1, p.2) (refused-weaker (IsUnread texts.Hierarchy bytes) (IsHierarchyFault bytes) (λ r unread. unread_fault bytes r unread) c.in_err-text.field-0.0
    c.in_err-text.ensures.none)

pub returns-in_err-text-clause-rejected : goal.returns-in_err-text-clause-rejected
returns-in_err-text-clause-rejected c =
    let p = err_from_is_err_and c.from_residual.result c.from_residual.ensures.1 in
    let bytes = c.args.bytes.now in
    rw (p.1, p.2) (refused-weaker (IsUnread texts.Hierarchy bytes) (λ _. HasNoHierarchy bytes)
    (λ r unread. faulty_no_hierarchy c.one_reading.ensures.not_both bytes r (unread_fault bytes r unread)) c.in_err-text.field-0.0 c.in_err-text.ensures.none)

pub returns-in-Err-Refused-clause-refused : goal.returns-in-Err-Refused-clause-refused
returns-in-Err-Refused-clause-refused c =
    let refusal = c.in-Err-Refused.refusal in
    let reported = subst (IfRefused (IsRefusedText c.in_ok-text.text.now)) c.in-Err-Refused.field-0-is c.in-Err-Refused.ensures.first_fault in
    let refused = subst (λ t. IsRefusedText t refusal) c.in_ok-text.ensures.same reported in
    record {
      kind = kinds.Hierarchy refusal.kind;
      at = refusal.at;
      refused = Wrong c.in_ok-text.ensures.text refusal refused;
      refusal_is = c.refusal_at-refused.ensures;
    }

pub returns-in-Err-Refused-clause-rejected : goal.returns-in-Err-Refused-clause-rejected
returns-in-Err-Refused-clause-rejected c =
    faulty_no_hierarchy c.one_reading.ensures.not_both c.args.bytes.now c.refusal_at-refused.result (returns-in-Err-Refused-clause-refused c)
