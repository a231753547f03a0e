use Rattle.std.proofs.lemmas.Result.{err_from_is_err_and, IfErr-at_err}
use Rattle.acceptance.proofs.ProperNames.{tree_of_text}
use Rattle.acceptance.specs.Refused.{WrongName}
use Rattle.common.proofs.Casting.{cast-answer}
use Rattle.common.specs.Answers.{IfRefused}
use Rattle.syntax.specs.Tree.{program_tree}
use Rattle.types.specs.Finding.{IsRefusalOf}
use Rattle.types.specs.Resolution.{resolution}
use Rattle.checker.specs.Found.{IsFoundRefusal}
use Rattle.checker.proofs.analysing.resolve_source.Goals as goal

pub returns-in_err-tree-clause-first_fault : goal.returns-in_err-tree-clause-first_fault
returns-in_err-tree-clause-first_fault c =
    let p = err_from_is_err_and c.from_residual.result c.from_residual.ensures.1 in
    rw (p.1, p.2) (c.in_err-tree.ensures.first_fault c.args.hierarchy.now)

pub resolve-requires : goal.resolve-requires
resolve-requires c = record { of_text = tree_of_text _ _ c.in_ok-tree.ensures.spelled }

pub returns-in_err-core-clause-first_fault : goal.returns-in_err-core-clause-first_fault
returns-in_err-core-clause-first_fault c =
    let p = err_from_is_err_and c.from_residual-in_err-core.result c.from_residual-in_err-core.ensures.1 in
    let h = c.args.hierarchy.now in
    let source = c.args.source.now in
    let tree = program_tree c.in_ok-tree.tree in
    rw (p.1, p.2) (IfErr-at_err (IfRefused (IsFoundRefusal h source)) c.in_err-core.was
    (cast-answer (IsRefusalOf (resolution h tree)) (IsFoundRefusal h source) (λ r s is found. rw (is.0, is.1) (WrongName tree c.in_ok-tree.ensures.spelled r found))
    c.resolve.result c.map_err.result c.map_err.ensures.cases c.resolve.ensures.first_fault))
