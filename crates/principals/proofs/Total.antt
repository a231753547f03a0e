-- Each text in UTF-8 is that of a hierarchy, or it is refused.
use Rattle.std.proofs.Common.{◌≡◌, ◌⊎◌, ℕ, ◌≤◌, List, [], ◌∷◌, ◌++◌, length, Option, None, Some, Result, Ok, Err, refl, sym, ap, ◌∙◌, subst, inl, inr, ⊎_elim, append_assoc, append-nil}
use Rattle.std.specs.Prelude.{IsUtf8}
use Rattle.std.proofs.lemmas.Bool.{cases_lt}
use Rattle.lexer.specs.Cut.{IsCut}
use Rattle.lexer.specs.Terminal.{Terminal, IsTerminated}
use Rattle.lexer.proofs.Listed.{listed}
use Rattle.lexer.proofs.Total.{is_cut_or_refused}
use Rattle.principals.specs.ActsFor.{PrincipalHierarchy, IsHierarchy}
use Rattle.principals.specs.HierarchyText.{Entry, built, IsUnexpectedInHierarchyAt, IsHierarchyOf, IsRefusedText, Long, Tokenless, Formless, Formed, refusal_for}
use Rattle.principals.specs.Laws.{HasOneHierarchy, IsReadOrRefused}
use Rattle.principals.specs.Reading.{ReadingState, Fresh, Ended, next, run, finished_entries, IsHierarchyForm, IsBuilt}
use Rattle.common.specs.declared.refusal.RefusalAt.{RefusalAt}
use Rattle.principals.specs.declared.fault.HierarchyRefusalKind.{HierarchyRefusalKind}
use Rattle.principals.specs.declared.fault.HierarchyRefusalKind.TheVariants as kind
use Rattle.principals.proofs.Automaton.{run-push, read_is_form, is_prefix, stops, run_ends}
use Rattle.principals.proofs.Building.{built_kept}
use Rattle.principals.proofs.Uniqueness.{hierarchy_once}
use Rattle.common.specs.declared.limits.TheConstants.{MAX_TEXT}

-- ---- what is described is a hierarchy

pub described_is_hierarchy : (es : List Entry) (h : PrincipalHierarchy) → IsBuilt es h → IsHierarchy h
described_is_hierarchy es h is = built_kept es h is

-- ---- the form

abbrev IsOfForm : List Terminal → Type 0
IsOfForm tokens = ((es : List Entry) × IsHierarchyForm tokens es) ⊎ ((at : ℕ) × IsUnexpectedInHierarchyAt tokens at)

walk : (before rest : List Terminal) (s : ReadingState) (es : List Entry) → IsTerminated (before ++ rest) → run Fresh before ≡ Some (s, es) → IsOfForm (before ++ rest)
walk before [] s es terminated h =
    let whole : run Fresh (before ++ []) ≡ Some (s, es) = ap (run Fresh) (append-nil before) ∙ h in
    let ended : s ≡ Ended = run_ends (before ++ []) Fresh s es terminated whole in
    inl (es, read_is_form (before ++ []) es (whole ∙ ap (λ x. Some (x, es)) ended))
walk before (t ∷ rest) s es terminated h =
    by (next s t) refl
    (λ after e. subst IsOfForm (append_assoc before (t ∷ []) rest)
    (walk (before ++ t ∷ []) rest after (es ++ finished_entries s t)
    (subst IsTerminated (sym (append_assoc before (t ∷ []) rest)) terminated)
    (run-push Fresh before t s after es h e)))
  where
    by : (o : Option ReadingState) → next s t ≡ o → ((after : ReadingState) → next s t ≡ Some after → IsOfForm (before ++ t ∷ rest)) → IsOfForm (before ++ t ∷ rest)
    by None e on =
        inr (
          t.start,
          record {
            before = before;
            token = t;
            after = rest;
            tokens_are = refl;
            goes_on = is_prefix before s es h;
            stops = stops before t s es h e;
            place = refl;
          },
        )
    by (Some after) e on = on after e

form_outcome : (tokens : List Terminal) → IsTerminated tokens → IsOfForm tokens
form_outcome tokens terminated = walk [] tokens Fresh [] terminated refl

-- ---- the text

abbrev Read : List ℕ → Type 0
Read text = ((hierarchy : PrincipalHierarchy) × IsHierarchyOf text hierarchy) ⊎ ((f : RefusalAt HierarchyRefusalKind) × IsRefusedText text f)

lexed : (text : List ℕ) (tokens : List Terminal) → IsUtf8 text → length text ≤ MAX_TEXT → IsCut text tokens → Read text
lexed text tokens utf8 fits cut =
    ⊎_elim
    (λ (form : (es : List Entry) × IsHierarchyForm tokens es).
    let on : (o : Result PrincipalHierarchy (RefusalAt HierarchyRefusalKind)) → built form.0 ≡ o → Read text =
    λ o. elim o as (λ p. built form.0 ≡ p → Read text) [
      | Ok h ↦ λ is. inl (h, Formed tokens form.0 (Ok h) fits cut form.1 is)
      | Err refusal ↦ λ is. inr (refusal, Formed tokens form.0 (Err refusal) fits cut form.1 is)
    ] in
    on (built form.0) refl)
    (λ (at : (byte : ℕ) × IsUnexpectedInHierarchyAt tokens byte). inr (refusal_for kind.Syntax at.0, Formless tokens at.0 fits cut at.1))
    (form_outcome tokens (listed text tokens utf8 cut).terminated)

pub is_read_or_refused : IsReadOrRefused
is_read_or_refused text utf8 =
    ⊎_elim
    (λ long. inr (refusal_for kind.TooLong 0, Long long))
    (λ fits. ⊎_elim
    (λ cut. lexed text cut.0 utf8 fits cut.1)
    (λ refused. inr (refusal_for kind.Syntax refused.0.at, Tokenless refused.0 fits refused.1))
    (is_cut_or_refused text utf8))
    (cases_lt MAX_TEXT (length text))

pub has_one_hierarchy : HasOneHierarchy
has_one_hierarchy text hierarchy other first second = hierarchy_once text hierarchy other first second
