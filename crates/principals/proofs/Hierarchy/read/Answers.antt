use Rattle.std.proofs.lemmas.Result.{IfErr-weaker}
use Rattle.common.specs.Answers.{IfRefused}
use Rattle.common.proofs.Casting.{refused-weaker}
use Rattle.principals.specs.HierarchyText.{HasBoundary, IsRefusedText}
use Rattle.principals.proofs.Spots.{refused_spot}
use Rattle.principals.proofs.Uniqueness.{read_complete, read_first}
use Rattle.principals.proofs.Hierarchy.read.Goals as goal

pub returns-clause-complete : goal.returns-clause-complete
returns-clause-complete c hierarchy of =
    read_complete c.args.text.now hierarchy of c.read_text.result c.read_text.ensures.accepted c.read_text.ensures.first_fault

pub returns-clause-refuses : goal.returns-clause-refuses
returns-clause-refuses c refusal refused =
    read_first c.args.text.now refusal refused c.read_text.result c.read_text.ensures.accepted c.read_text.ensures.first_fault

pub returns-clause-boundary : goal.returns-clause-boundary
returns-clause-boundary c =
    IfErr-weaker c.read_text.result (IfRefused (IsRefusedText c.args.text.now)) (IfRefused (HasBoundary c.args.text.now))
    (λ f h. refused-weaker (IsRefusedText c.args.text.now) (HasBoundary c.args.text.now) (refused_spot c.args.text.now c.utf8.text) f h)
    c.read_text.ensures.first_fault
