use Rattle.std.proofs.Common.{subst}
use Rattle.common.specs.Answers.{IfRefused}
use Rattle.checker.specs.Reported.{HasNoHierarchy, IsHierarchyFault}
use Rattle.flowc.specs.Messages.IsHierarchyLine.{no_hierarchy, not_contained}
use Rattle.flowc.proofs.Refusals.{not_contained_in, not_viewed}
use Rattle.flowc.proofs.running.read_larger.Goals as goal

pub returns-in_ok-not_contained_line-in-Ok-clause-rejected :
    goal.returns-in_ok-not_contained_line-in-Ok-clause-rejected
returns-in_ok-not_contained_line-in-Ok-clause-rejected c = λ one.
    not_viewed c.one_reading.ensures.one_hierarchy c.args.program.now c.args.file.bytes.now c.in-Ok.hierarchy c.in-Ok.ensures.has
    (not_contained_in c.in-Ok.hierarchy c.hierarchy-in-Ok.result.now c.args.program.now _ c.contains.ensures c.if-contains.false c.hierarchy-in-Ok.ensures.hierarchy)

pub returns-in_ok-not_contained_line-in-Ok-clause-message :
    goal.returns-in_ok-not_contained_line-in-Ok-clause-message
returns-in_ok-not_contained_line-in-Ok-clause-message c =
    not_contained c.in-Ok.hierarchy c.in-Ok.ensures.has
    (not_contained_in c.in-Ok.hierarchy c.hierarchy-in-Ok.result.now c.args.program.now _ c.contains.ensures c.if-contains.false c.hierarchy-in-Ok.ensures.hierarchy)
    c.in_ok-not_contained_line-in-Ok.ensures

pub returns-in_ok-text_line-in-Err-Refused-clause-rejected :
    goal.returns-in_ok-text_line-in-Err-Refused-clause-rejected
returns-in_ok-text_line-in-Err-Refused-clause-rejected c = λ one hierarchy viewed.
    subst (IfRefused (λ _. HasNoHierarchy c.args.file.bytes.now)) c.in-Err-Refused.field-0-is c.in-Err-Refused.ensures.rejected hierarchy viewed.0

pub returns-in_ok-text_line-in-Err-Refused-clause-message :
    goal.returns-in_ok-text_line-in-Err-Refused-clause-message
returns-in_ok-text_line-in-Err-Refused-clause-message c =
    no_hierarchy c.in-Err-Refused.refusal
    (subst (IfRefused (IsHierarchyFault c.args.file.bytes.now)) c.in-Err-Refused.field-0-is c.in-Err-Refused.ensures.refused)
    c.in_ok-text_line-in-Err-Refused.ensures
