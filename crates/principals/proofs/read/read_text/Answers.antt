use Rattle.std.proofs.Common.{refl, sym, subst}
use Rattle.std.specs.Prelude.{Ok, Err}
use Rattle.std.proofs.lemmas.Result.{err_from_is_err_and, IfErr-at_err, IfErr-weaker, IfOk-weaker}
use Rattle.common.specs.Answers.{IfRefused}
use Rattle.common.proofs.Casting.{cast-answer, mapped-ok, refused-weaker}
use Rattle.lexer.specs.Cut.{IsCut, IsTextRefused}
use Rattle.lexer.specs.Terminal.{terminals_of}
use Rattle.principals.specs.HierarchyText.{IsHierarchyOf, IsRefusedText, Long, Formed}
use Rattle.principals.specs.Reading.{entries_of, IsFormRefusal, IsFirstRefusal, IsHierarchyForm, IsBuilt}
use Rattle.principals.proofs.Called.{declared_kept}
use Rattle.principals.proofs.Uniqueness.{form_refused, tokens_refused}
use Rattle.principals.proofs.read.read_text.Goals as goal

pub returns-in_err-tokens-clause-first_fault : goal.returns-in_err-tokens-clause-first_fault
returns-in_err-tokens-clause-first_fault c =
    let p = err_from_is_err_and c.from_residual.result c.from_residual.ensures.1 in
    let text = c.args.text.now in
    rw (p.1, p.2) (IfErr-at_err (IfRefused (IsRefusedText text)) c.in_err-tokens.was
    (cast-answer (IsTextRefused text) (IsRefusedText text) (λ r f is h. tokens_refused text r f c.if-text-gt-MAX_TEXT.false is h)
    c.lex.result c.map_err.result c.map_err.ensures.cases c.lex.ensures.first_fault))

pub returns-then-text-gt-MAX_TEXT-clause-first_fault : goal.returns-then-text-gt-MAX_TEXT-clause-first_fault
returns-then-text-gt-MAX_TEXT-clause-first_fault c = Long c.if-text-gt-MAX_TEXT.true

pub returns-in_err-statements-clause-first_fault : goal.returns-in_err-statements-clause-first_fault
returns-in_err-statements-clause-first_fault c =
    let p = err_from_is_err_and c.from_residual-in_err-statements.result c.from_residual-in_err-statements.ensures.1 in
    let text = c.args.text.now in
    let tokens = terminals_of c.as_slice.result.now in
    let found = mapped-ok c.lex.result (Ok c.in_ok-tokens.tokens) c.in_ok-tokens.tokens (λ found. IsCut text (terminals_of found.items)) refl
    c.in_ok-tokens.ensures.cases (λ fault no. no) c.lex.ensures.accepted in
    let cut : IsCut text tokens = rw c.as_slice.ensures.value found in
    rw (p.1, p.2) (refused-weaker (IsFormRefusal tokens) (IsRefusedText text)
    (λ r h. form_refused text tokens r c.if-text-gt-MAX_TEXT.false cut h) c.in_err-statements.field-0.0 c.in_err-statements.ensures.rejected)

pub returns-clause-first_fault : goal.returns-clause-first_fault
returns-clause-first_fault c =
    let text = c.args.text.now in
    let entries = entries_of c.as_slice-2.result.now in
    let tokens = mapped-ok c.lex.result (Ok c.in_ok-tokens.tokens) c.in_ok-tokens.tokens (λ found. IsCut text (terminals_of found.items)) refl
    c.in_ok-tokens.ensures.cases (λ fault no. no) c.lex.ensures.accepted in
    let form = subst (λ x. IsHierarchyForm (terminals_of x) entries) c.as_slice.ensures.value
    (subst (λ x. IsHierarchyForm (terminals_of c.as_slice.result.now) (entries_of x)) (sym c.as_slice-2.ensures.value) c.in_ok-statements.ensures.form) in
    IfErr-weaker c.hierarchy_of.result (IfRefused (IsFirstRefusal entries)) (IfRefused (IsRefusedText text))
    (λ f h. refused-weaker (IsFirstRefusal entries) (IsRefusedText text)
    (λ r refused. Formed (terminals_of c.in_ok-tokens.tokens.items) entries (Err r) c.if-text-gt-MAX_TEXT.false tokens form refused) f h) c.hierarchy_of.ensures.first_fault

pub returns-clause-accepted : goal.returns-clause-accepted
returns-clause-accepted c =
    let text = c.args.text.now in
    let entries = entries_of c.as_slice-2.result.now in
    let tokens = mapped-ok c.lex.result (Ok c.in_ok-tokens.tokens) c.in_ok-tokens.tokens (λ found. IsCut text (terminals_of found.items)) refl
    c.in_ok-tokens.ensures.cases (λ fault no. no) c.lex.ensures.accepted in
    let form = subst (λ x. IsHierarchyForm (terminals_of x) entries) c.as_slice.ensures.value
    (subst (λ x. IsHierarchyForm (terminals_of c.as_slice.result.now) (entries_of x)) (sym c.as_slice-2.ensures.value) c.in_ok-statements.ensures.form) in
    IfOk-weaker c.hierarchy_of.result (IsBuilt entries) (IsHierarchyOf text)
    (λ hierarchy built. Formed (terminals_of c.in_ok-tokens.tokens.items) entries (Ok hierarchy) c.if-text-gt-MAX_TEXT.false tokens form built) c.hierarchy_of.ensures.described

pub hierarchy_of-requires : goal.hierarchy_of-requires
hierarchy_of-requires c =
    let text = c.args.text.now in
    let entries = entries_of c.as_slice-2.result.now in
    let tokens = mapped-ok c.lex.result (Ok c.in_ok-tokens.tokens) c.in_ok-tokens.tokens (λ found. IsCut text (terminals_of found.items)) refl
    c.in_ok-tokens.ensures.cases (λ fault no. no) c.lex.ensures.accepted in
    declared_kept text (terminals_of c.in_ok-tokens.tokens.items) entries c.utf8.text c.if-text-gt-MAX_TEXT.false tokens
    (subst (λ x. IsHierarchyForm (terminals_of x) entries) c.as_slice.ensures.value
    (subst (λ x. IsHierarchyForm (terminals_of c.as_slice.result.now) (entries_of x)) (sym c.as_slice-2.ensures.value) c.in_ok-statements.ensures.form))
