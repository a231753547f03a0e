use Rattle.std.proofs.Common.{refl}
use Rattle.std.proofs.lemmas.Result.{err_from_is_err_and, IfErr-at_err}
use Rattle.std.specs.Prelude.{Ok}
use Rattle.common.specs.Answers.{IfRefused}
use Rattle.common.proofs.Casting.{cast-answer, mapped-ok}
use Rattle.lexer.specs.Cut.{IsCut, IsTextRefused}
use Rattle.lexer.specs.Terminal.{terminals_of}
use Rattle.parser.specs.Refusal.{AreTokensRefused}
use Rattle.acceptance.specs.Refused.{NoTokens, NoTree}
use Rattle.checker.specs.Found.{IsFoundRefusal}
use Rattle.checker.proofs.analysing.read.Goals as goal

pub returns-in_err-tokens-clause-first_fault : goal.returns-in_err-tokens-clause-first_fault
returns-in_err-tokens-clause-first_fault c = λ h.
    let p = err_from_is_err_and c.from_residual.result c.from_residual.ensures.1 in
    let source = c.args.source.now in
    rw (p.1, p.2) (IfErr-at_err (IfRefused (IsFoundRefusal h source)) c.in_err-tokens.was
    (cast-answer (IsTextRefused source) (IsFoundRefusal h source) (λ r s is refused. rw (is.0, is.1) (NoTokens c.requires.text r refused))
    c.lex.result c.map_err.result c.map_err.ensures.cases c.lex.ensures.first_fault))

pub returns-in_err-tree-clause-first_fault : goal.returns-in_err-tree-clause-first_fault
returns-in_err-tree-clause-first_fault c = λ h.
    let p = err_from_is_err_and c.from_residual-in_err-tree.result c.from_residual-in_err-tree.ensures.1 in
    let source = c.args.source.now in
    let tokens = c.in_ok-tokens.tokens in
    let cut : IsCut source (terminals_of tokens.items) =
    mapped-ok c.lex.result (Ok tokens) tokens (λ found. IsCut source (terminals_of found.items)) refl c.in_ok-tokens.ensures.cases (λ fault no. no) c.lex.ensures.accepted in
    rw (p.1, p.2) (IfErr-at_err (IfRefused (IsFoundRefusal h source)) c.in_err-tree.was
    (cast-answer (AreTokensRefused (terminals_of c.as_slice.result.now)) (IsFoundRefusal h source)
    (λ r s is refused. rw (is.0, is.1) (NoTree c.requires.text (terminals_of c.as_slice.result.now) (rw c.as_slice.ensures.value cut) r refused))
    c.parse.result c.map_err-2.result c.map_err-2.ensures.cases c.parse.ensures.first_fault))
