-- The states of the reader and the grammar of the text: what a run reads is what the grammar derives.
use Rattle.std.proofs.Common.{◌≡◌, ◌≢◌, ℕ, Bool, true, false, List, [], ◌∷◌, ◌++◌, Option, None, Some, refl, sym, ap, ◌∙◌, subst, ◌⊎◌, inl, inr, ⊎_elim, append_assoc, append-nil}
use Rattle.std.specs.Prelude.{bytes_eq, codes, option_map, cond}
use Rattle.std.specs.Option.{option_and_then}
use Rattle.std.proofs.lemmas.Bool.{false≢true, false_from_ne_true}
use Rattle.std.proofs.lemmas.Option.{none-some, same_Some, some_pair_parts}
use Rattle.std.proofs.lemmas.Slice.Eq.{bytes_eq-Decides}
use Rattle.lexer.specs.Terminal.{Terminal, IsTerminated}
use Rattle.lexer.proofs.Fixed.{coded_kind, one_word}
use Rattle.lexer.specs.KindOf.{kind_of}
use Rattle.lexer.specs.KindRows.{code_of}
use Rattle.lexer.specs.TokenKind as token
use Rattle.lexer.specs.TokenKind.{word_of}
use Rattle.lexer.specs.declared.token.Kind.{Kind}
use Rattle.lexer.specs.declared.token.Kind.TheVariants as kind
use Rattle.principals.specs.HierarchyText as form
use Rattle.principals.specs.HierarchyText.{Entry, Declares, Relates, IsWord, IsPrincipalName, Derives, IsPrefixOfForm}
use Rattle.principals.specs.declared.reading.TokenRole.{TokenRole}
use Rattle.principals.specs.declared.reading.TokenRole.TheVariants.{Principal, ActsFor, Name, Comma, Semicolon, End}
use Rattle.principals.specs.Reading.{Nonterminal, Items, Names, DerivesFrom, Finish, Declaration, PrincipalRelation, OneMore, Last, IsHierarchyForm, role_by, role_of, ReadingState, Fresh, Declaring, Listed, Subject, Verb, Complete, Ended, next_by, next, finished_entries, run}

-- ---- what a token is

cond_principal : (b c : Bool) → cond b Principal (cond c ActsFor Name) ≡ Principal → b ≡ true
cond_principal true c h = refl
cond_principal false true h = cc
cond_principal false false h = cc

cond_acts_for : (b c : Bool) → cond b Principal (cond c ActsFor Name) ≡ ActsFor → c ≡ true
cond_acts_for true c h = cc
cond_acts_for false true h = refl
cond_acts_for false false h = cc

cond_name : (b c : Bool) → cond b Principal (cond c ActsFor Name) ≡ Name → (b ≡ false) × (c ≡ false)
cond_name true c h = cc
cond_name false true h = cc
cond_name false false h = (refl, refl)

differs : (text word : List ℕ) → bytes_eq text word ≡ false → text ≢ word
differs text word f e = false≢true (sym f ∙ (bytes_eq-Decides text word).1 e)

by_principal : (k : Kind) (text : List ℕ) → role_by k text ≡ Principal → (k ≡ kind.Name) × (text ≡ codes "principal")
by_principal kind.Name text h = (refl, (bytes_eq-Decides text (codes "principal")).0 (cond_principal _ (bytes_eq text (codes "actsfor")) h))
by_principal kind.Comma text h = cc
by_principal kind.Semicolon text h = cc
by_principal kind.End text h = cc
by_principal _ text h = cc

by_acts_for : (k : Kind) (text : List ℕ) → role_by k text ≡ ActsFor → (k ≡ kind.Name) × (text ≡ codes "actsfor")
by_acts_for kind.Name text h = (refl, (bytes_eq-Decides text (codes "actsfor")).0 (cond_acts_for (bytes_eq text (codes "principal")) _ h))
by_acts_for kind.Comma text h = cc
by_acts_for kind.Semicolon text h = cc
by_acts_for kind.End text h = cc
by_acts_for _ text h = cc

by_name : (k : Kind) (text : List ℕ) → role_by k text ≡ Name → (k ≡ kind.Name) × (text ≢ codes "principal") × (text ≢ codes "actsfor")
by_name kind.Name text h =
    let both = cond_name (bytes_eq text (codes "principal")) (bytes_eq text (codes "actsfor")) h in
    (refl, differs text (codes "principal") both.0, differs text (codes "actsfor") both.1)
by_name kind.Comma text h = cc
by_name kind.Semicolon text h = cc
by_name kind.End text h = cc
by_name _ text h = cc

cond_word : (P : TokenRole → Type 0) (b c : Bool) → P Principal → P ActsFor → P Name → P (cond b Principal (cond c ActsFor Name))
cond_word P true c h k l = h
cond_word P false true h k l = k
cond_word P false false h k l = l

abbrev RoleHasKind : Kind → TokenRole → Type 0
RoleHasKind k r = (r ≡ Comma → k ≡ kind.Comma) × (r ≡ Semicolon → k ≡ kind.Semicolon) × (r ≡ End → k ≡ kind.End)

by_kind : (k : Kind) (text : List ℕ) → RoleHasKind k (role_by k text)
by_kind kind.Name text =
    cond_word (RoleHasKind kind.Name) (bytes_eq text (codes "principal")) (bytes_eq text (codes "actsfor"))
    (λ h. cc, λ h. cc, λ h. cc) (λ h. cc, λ h. cc, λ h. cc) (λ h. cc, λ h. cc, λ h. cc)
by_kind kind.Comma text = (λ h. refl, λ h. cc, λ h. cc)
by_kind kind.Semicolon text = (λ h. cc, λ h. refl, λ h. cc)
by_kind kind.End text = (λ h. cc, λ h. cc, λ h. refl)
by_kind _ text = (λ h. cc, λ h. cc, λ h. cc)

role_is_principal : (t : Terminal) → role_of t ≡ Principal → IsWord (codes "principal") t
role_is_principal t h = let parts = by_principal (code_of t.kind) t.text h in (coded_kind t.kind kind.Name parts.0, parts.1)

role_is_acts_for : (t : Terminal) → role_of t ≡ ActsFor → IsWord (codes "actsfor") t
role_is_acts_for t h = let parts = by_acts_for (code_of t.kind) t.text h in (coded_kind t.kind kind.Name parts.0, parts.1)

role_is_name : (t : Terminal) → role_of t ≡ Name → IsPrincipalName t
role_is_name t h =
    let parts = by_name (code_of t.kind) t.text h in
    (coded_kind t.kind kind.Name parts.0, parts.1, parts.2)

word_role : (t : Terminal) → IsWord (codes "principal") t → role_of t ≡ Principal
word_role t h = λ i. role_by (code_of (h.0 i)) (h.1 i)

verb_role : (t : Terminal) → IsWord (codes "actsfor") t → role_of t ≡ ActsFor
verb_role t h = λ i. role_by (code_of (h.0 i)) (h.1 i)

name_role : (t : Terminal) → IsPrincipalName t → role_of t ≡ Name
name_role t h =
    let not_first : bytes_eq t.text (codes "principal") ≡ false = false_from_ne_true _ (λ e. h.1 ((bytes_eq-Decides t.text (codes "principal")).0 e)) in
    let not_second : bytes_eq t.text (codes "actsfor") ≡ false = false_from_ne_true _ (λ e. h.2 ((bytes_eq-Decides t.text (codes "actsfor")).0 e)) in
    ap (λ k. role_by (code_of k) t.text) h.0 ∙ (λ i. cond (not_first i) Principal (cond (not_second i) ActsFor Name))

kind_role : (t : Terminal) (k : Kind) (r : TokenRole) → ((text : List ℕ) → role_by k text ≡ r) → code_of t.kind ≡ k → role_of t ≡ r
kind_role t k r by e = ap (λ x. role_by x t.text) e ∙ by t.text

-- a token of a sign
semicolon_code : (t : Terminal) → word_of t.kind ≡ codes ";" → code_of t.kind ≡ kind.Semicolon
semicolon_code t e = one_word t.kind kind.Semicolon (λ value h. cc) e

comma_code : (t : Terminal) → word_of t.kind ≡ codes "," → code_of t.kind ≡ kind.Comma
comma_code t e = one_word t.kind kind.Comma (λ value h. cc) e

sign_is : (t : Terminal) (k : Kind) → code_of t.kind ≡ k → word_of t.kind ≡ word_of (kind_of k)
sign_is t k e = ap word_of (coded_kind t.kind k e)

-- ---- runs

-- what a run gives goes on
abbrev onto : List Entry → Option (ReadingState × List Entry) → Option (ReadingState × List Entry)
onto entries r = option_map (λ end. (end.0, entries ++ end.1)) r

onto-onto : (xs ys : List Entry) (r : Option (ReadingState × List Entry)) → onto xs (onto ys r) ≡ onto (xs ++ ys) r
onto-onto xs ys None = refl
onto-onto xs ys (Some (s, es)) = ap (λ x. Some (s, x)) (sym (append_assoc xs ys es))

onto-nil : (r : Option (ReadingState × List Entry)) → onto [] r ≡ r
onto-nil None = refl
onto-nil (Some (s, es)) = refl

-- what is read after the first part
abbrev then_run : List Terminal → Option (ReadingState × List Entry) → Option (ReadingState × List Entry)
then_run rest r = option_and_then (λ end. onto end.1 (run end.0 rest)) r

onto-then : (entries : List Entry) (rest : List Terminal) (r : Option (ReadingState × List Entry)) → onto entries (then_run rest r) ≡ then_run rest (onto entries r)
onto-then entries rest None = refl
onto-then entries rest (Some (s, es)) = onto-onto entries es (run s rest)

-- a run over two lists is one over the first and then one over the second
pub run-append : (s : ReadingState) (front rest : List Terminal) → run s (front ++ rest) ≡ then_run rest (run s front)
run-append s [] rest = sym (onto-nil (run s rest))
run-append s (t ∷ front) rest =
    let on : (o : Option ReadingState) → option_and_then (λ after. onto (finished_entries s t) (run after (front ++ rest))) o
    ≡ then_run rest (option_and_then (λ after. onto (finished_entries s t) (run after front)) o) =
    λ o. elim o as (λ o'. option_and_then (λ after. onto (finished_entries s t) (run after (front ++ rest))) o'
    ≡ then_run rest (option_and_then (λ after. onto (finished_entries s t) (run after front)) o')) [
      | None ↦ refl
      | Some after ↦ ap (onto (finished_entries s t)) (run-append after front rest) ∙ onto-then (finished_entries s t) rest (run after front)
    ] in
    on (next s t)

-- one token more
pub run-push : (s : ReadingState) (front : List Terminal) (t : Terminal) (end after : ReadingState) (es : List Entry) → run s front ≡ Some (end, es) →
    next end t ≡ Some after → run s (front ++ t ∷ []) ≡ Some (after, es ++ finished_entries end t)
run-push s front t end after es h k =
    run-append s front (t ∷ []) ∙ ap (then_run (t ∷ [])) h
    ∙ ap (λ o. onto es (option_and_then (λ x. onto (finished_entries end t) (run x [])) o)) k
    ∙ ap (λ x. Some (after, es ++ x)) (append-nil (finished_entries end t))

-- no token more, whatever comes after it
pub run-stop : (s : ReadingState) (front : List Terminal) (t : Terminal) (rest : List Terminal) (end : ReadingState) (es : List Entry) → run s front ≡ Some (end, es) →
    next end t ≡ None → run s (front ++ t ∷ rest) ≡ None
run-stop s front t rest end es h k =
    run-append s front (t ∷ rest) ∙ ap (then_run (t ∷ rest)) h
    ∙ ap (λ o. onto es (option_and_then (λ x. onto (finished_entries end t) (run x rest)) o)) k

-- ---- nonterminals in place of signs

no_comma : {P : Type 0} → codes ";" ≡ codes "," → P
no_comma e = absurd cc

-- after `;` stand items, and after `,` names
from_sign : {sign : List ℕ} {tokens : List Terminal} {entries : List Entry} → Derives sign tokens entries
    → ((sign ≡ codes ";") × DerivesFrom Items tokens entries) ⊎ ((sign ≡ codes ",") × DerivesFrom Names tokens entries)
from_sign (form.Finish end h) = inl (refl, Finish end h)
from_sign (form.Declaration word rest entries h d) = elim (from_sign d) [
  | inl items ↦ no_comma (sym items.0)
  | inr names ↦ inl (refl, Declaration word rest entries h names.1)
]
from_sign (form.DeclaredName name sign rest entries n d) = elim (from_sign d) [
  | inl items ↦ inr (refl, Last name sign rest entries n items.0 items.1)
  | inr names ↦ inr (refl, OneMore name sign rest entries n names.0 names.1)
]
from_sign (form.PrincipalRelation left word right sign rest entries l w r s d) = elim (from_sign d) [
  | inl items ↦ inl (refl, PrincipalRelation left word right sign rest entries l w r s items.1)
  | inr names ↦ no_comma names.0
]

pub to_items : {tokens : List Terminal} {entries : List Entry} → IsHierarchyForm tokens entries → DerivesFrom Items tokens entries
to_items d = elim (from_sign d) [ inl items ↦ items.1 | inr names ↦ no_comma names.0 ]

abbrev sign_of : Nonterminal → List ℕ
sign_of Items = codes ";"
sign_of Names = codes ","

pub to_sign : {n : Nonterminal} {tokens : List Terminal} {entries : List Entry} → DerivesFrom n tokens entries → Derives (sign_of n) tokens entries
to_sign (Finish end h) = form.Finish end h
to_sign (Declaration word rest entries h d) = form.Declaration word rest entries h (to_sign d)
to_sign (PrincipalRelation left word right semicolon rest entries l w r s d) = form.PrincipalRelation left word right semicolon rest entries l w r s (to_sign d)
to_sign (OneMore name comma rest entries n c d) = form.DeclaredName name comma rest entries n (subst (λ sign. Derives sign rest entries) (sym c) (to_sign d))
to_sign (Last name semicolon rest entries n s d) = form.DeclaredName name semicolon rest entries n (subst (λ sign. Derives sign rest entries) (sym s) (to_sign d))

-- ---- what the grammar derives is read

-- where a nonterminal is expected
abbrev at_start : Nonterminal → ReadingState
at_start Items = Fresh
at_start Names = Declaring

-- one token of a run, by its role
one : (s : ReadingState) (t : Terminal) (r : TokenRole) (after : ReadingState) (rest : List Terminal) (es : List Entry) → role_of t ≡ r → next_by s r t ≡ Some after →
    run after rest ≡ Some (Ended, es) → run s (t ∷ rest) ≡ Some (Ended, finished_entries s t ++ es)
one s t r after rest es role step h =
    let e : next s t ≡ Some after = ap (λ x. next_by s x t) role ∙ step in
    ap (λ o. option_and_then (λ x. onto (finished_entries s t) (run x rest)) o) e ∙ ap (onto (finished_entries s t)) h

items_are_read : {n : Nonterminal} {tokens : List Terminal} {entries : List Entry} → DerivesFrom n tokens entries → run (at_start n) tokens ≡ Some (Ended, entries)
items_are_read (Finish end h) = one Fresh end End Ended [] [] (kind_role end kind.End End (λ _. refl) (ap code_of h)) refl refl
items_are_read (Declaration word rest entries h d) =
    one Fresh word Principal Declaring rest entries (word_role word h) refl (items_are_read d)
items_are_read (PrincipalRelation left word right semicolon rest entries l w r s d) =
    one Fresh left Name (Subject left) (word ∷ right ∷ semicolon ∷ rest) (Relates left right ∷ entries) (name_role left l) refl
    (one (Subject left) word ActsFor (Verb left) (right ∷ semicolon ∷ rest) (Relates left right ∷ entries) (verb_role word w) refl
    (one (Verb left) right Name Complete (semicolon ∷ rest) entries (name_role right r) refl
    (one Complete semicolon Semicolon Fresh rest entries (kind_role semicolon kind.Semicolon Semicolon (λ _. refl) (semicolon_code semicolon s)) refl (items_are_read d))))
items_are_read (OneMore name comma rest entries n c d) =
    one Declaring name Name Listed (comma ∷ rest) entries (name_role name n) refl
    (one Listed comma Comma Declaring rest entries (kind_role comma kind.Comma Comma (λ _. refl) (comma_code comma c)) refl (items_are_read d))
items_are_read (Last name semicolon rest entries n s d) =
    one Declaring name Name Listed (semicolon ∷ rest) entries (name_role name n) refl
    (one Listed semicolon Semicolon Fresh rest entries (kind_role semicolon kind.Semicolon Semicolon (λ _. refl) (semicolon_code semicolon s)) refl (items_are_read d))

pub derived_is_read : {tokens : List Terminal} {entries : List Entry} → IsHierarchyForm tokens entries → run Fresh tokens ≡ Some (Ended, entries)
derived_is_read d = items_are_read (to_items d)

-- ---- what is read is derived

-- what the grammar derives from a state on, with the tokens of the open item in front of it
abbrev Open : ReadingState → List Terminal → List Entry → Type 0
Open Fresh tokens entries = DerivesFrom Items tokens entries
Open Declaring tokens entries = DerivesFrom Names tokens entries
Open Listed tokens entries = (name : Terminal) → IsPrincipalName name → DerivesFrom Names (name ∷ tokens) (Declares name ∷ entries)
Open (Subject left) tokens entries = IsPrincipalName left → DerivesFrom Items (left ∷ tokens) entries
Open (Verb left) tokens entries = (word : Terminal) → IsPrincipalName left → IsWord (codes "actsfor") word → DerivesFrom Items (left ∷ word ∷ tokens) entries
Open Complete tokens entries = (left word right : Terminal) → IsPrincipalName left → IsWord (codes "actsfor") word → IsPrincipalName right →
    DerivesFrom Items (left ∷ word ∷ right ∷ tokens) (Relates left right ∷ entries)
Open Ended tokens entries = (end : Terminal) → end.kind ≡ token.End → DerivesFrom Items (end ∷ tokens) entries

none : {P : Type 0} (s : ReadingState) → None ≡ Some s → P
none s h = absurd (none-some s h)

open_step : (s : ReadingState) (t : Terminal) (r : TokenRole) (after : ReadingState) (rest : List Terminal) (es : List Entry) → role_of t ≡ r → next_by s r t ≡ Some after →
    Open after rest es → Open s (t ∷ rest) (finished_entries s t ++ es)
open_step Fresh t Principal after rest es role h o = Declaration t rest es (role_is_principal t role) (subst (λ s. Open s rest es) (sym (same_Some _ _ h)) o)
open_step Fresh t Name after rest es role h o = subst (λ s. Open s rest es) (sym (same_Some _ _ h)) o (role_is_name t role)
open_step Fresh t End after rest es role h o = subst (λ s. Open s rest es) (sym (same_Some _ _ h)) o t (coded_kind t.kind kind.End ((by_kind (code_of t.kind) t.text).2 role))
open_step Declaring t Name after rest es role h o = subst (λ s. Open s rest es) (sym (same_Some _ _ h)) o t (role_is_name t role)
open_step Listed t Comma after rest es role h o =
    λ name n. OneMore name t rest es n (sign_is t kind.Comma ((by_kind (code_of t.kind) t.text).0 role)) (subst (λ s. Open s rest es) (sym (same_Some _ _ h)) o)
open_step Listed t Semicolon after rest es role h o =
    λ name n. Last name t rest es n (sign_is t kind.Semicolon ((by_kind (code_of t.kind) t.text).1 role)) (subst (λ s. Open s rest es) (sym (same_Some _ _ h)) o)
open_step (Subject left) t ActsFor after rest es role h o = λ l. subst (λ s. Open s rest es) (sym (same_Some _ _ h)) o t l (role_is_acts_for t role)
open_step (Verb left) t Name after rest es role h o =
    λ word l w. subst (λ s. Open s rest es) (sym (same_Some _ _ h)) o left word t l w (role_is_name t role)
open_step Complete t Semicolon after rest es role h o =
    λ left word right l w r. PrincipalRelation left word right t rest es l w r (sign_is t kind.Semicolon ((by_kind (code_of t.kind) t.text).1 role)) (subst (λ s. Open s rest es) (sym (same_Some _ _ h)) o)
open_step _ t _ after rest es role h o = none after h

-- a run to the end reads what is open from its state on
read_is_open : (tokens : List Terminal) (s : ReadingState) (es : List Entry) → run s tokens ≡ Some (Ended, es) → Open s tokens es
read_is_open [] s es h =
    let parts = some_pair_parts s Ended [] es h in
    subst (λ x. Open x [] es) (sym parts.0) (subst (λ x. Open Ended [] x) parts.1 (λ end k. Finish end k))
read_is_open (t ∷ rest) s es h =
    let on_end : (after : ReadingState) → next s t ≡ Some after → (o : Option (ReadingState × List Entry)) → run after rest ≡ o → onto (finished_entries s t) o ≡ Some (Ended, es) → Open s (t ∷ rest) es =
    λ after step o. elim o as (λ o'. run after rest ≡ o' → onto (finished_entries s t) o' ≡ Some (Ended, es) → Open s (t ∷ rest) es) [
      | None ↦ λ k g. absurd (none-some _ g)
      | Some end ↦ λ k g.
          let parts = some_pair_parts end.0 Ended (finished_entries s t ++ end.1) es g in
          let last : run after rest ≡ Some (Ended, end.1) = k ∙ ap (λ x. Some (x, end.1)) parts.0 in
          subst (λ x. Open s (t ∷ rest) x) parts.1 (open_step s t (role_of t) after rest end.1 refl step (read_is_open rest after end.1 last))
    ] in
    let on_step : (o : Option ReadingState) → next s t ≡ o → option_and_then (λ after. onto (finished_entries s t) (run after rest)) o ≡ Some (Ended, es) → Open s (t ∷ rest) es =
    λ o. elim o as (λ o'. next s t ≡ o' → option_and_then (λ after. onto (finished_entries s t) (run after rest)) o' ≡ Some (Ended, es) → Open s (t ∷ rest) es) [
      | None ↦ λ k g. absurd (none-some _ g)
      | Some after ↦ λ k g. on_end after k (run after rest) refl g
    ] in
    on_step (next s t) refl h

pub read_is_form : (tokens : List Terminal) (es : List Entry) → run Fresh tokens ≡ Some (Ended, es) → IsHierarchyForm tokens es
read_is_form tokens es h = to_sign (read_is_open tokens Fresh es h)

-- ---- fronts of texts of the form

any_end : Terminal
any_end = record { kind = token.End; text = []; start = 0; end = 0 }

any_semicolon : Terminal
any_semicolon = record { kind = kind_of kind.Semicolon; text = []; start = 0; end = 0 }

any_name : Terminal
any_name = record { kind = token.Name; text = codes "A"; start = 0; end = 0 }

any_verb : Terminal
any_verb = record { kind = token.Name; text = codes "actsfor"; start = 0; end = 0 }

-- every state can be ended
live : (s : ReadingState) → (more : List Terminal) × (es : List Entry) × (run s more ≡ Some (Ended, es))
unfolding any_end any_semicolon any_name any_verb
live Fresh = (any_end ∷ [], [], refl)
live Declaring = (any_name ∷ any_semicolon ∷ any_end ∷ [], Declares any_name ∷ [], refl)
live Listed = (any_semicolon ∷ any_end ∷ [], [], refl)
live (Subject left) = (any_verb ∷ any_name ∷ any_semicolon ∷ any_end ∷ [], Relates left any_name ∷ [], refl)
live (Verb left) = (any_name ∷ any_semicolon ∷ any_end ∷ [], Relates left any_name ∷ [], refl)
live Complete = (any_semicolon ∷ any_end ∷ [], [], refl)
live Ended = ([], [], refl)

pub is_prefix : (front : List Terminal) (s : ReadingState) (es : List Entry) → run Fresh front ≡ Some (s, es) → IsPrefixOfForm front
is_prefix front s es h =
    let end = live s in (
      end.0,
      es ++ end.1,
      read_is_form (front ++ end.0) (es ++ end.1)
          (run-append Fresh front end.0 ∙ ap (then_run end.0) h ∙ ap (onto es) end.2),
    )

pub stops : (front : List Terminal) (t : Terminal) (s : ReadingState) (es : List Entry) → run Fresh front ≡ Some (s, es) → next s t ≡ None → IsPrefixOfForm (front ++ t ∷ []) → ⊥
stops front t s es h k (more, entries, form) =
    let whole : run Fresh ((front ++ t ∷ []) ++ more) ≡ Some (Ended, entries) = derived_is_read form in
    none-some (Ended, entries) (sym (run-stop Fresh front t more s es h k) ∙ ap (run Fresh) (sym (append_assoc front (t ∷ []) more)) ∙ whole)

-- ---- the end marker

ends_by : (s : ReadingState) (t : Terminal) (after : ReadingState) → next_by s End t ≡ Some after → after ≡ Ended
ends_by Fresh t after h = sym (same_Some _ _ h)
ends_by Declaring t after h = none after h
ends_by Listed t after h = none after h
ends_by (Subject left) t after h = none after h
ends_by (Verb left) t after h = none after h
ends_by Complete t after h = none after h
ends_by Ended t after h = none after h

-- a run over tokens with the end marker after them has ended
pub run_ends : (tokens : List Terminal) (s end : ReadingState) (es : List Entry) → IsTerminated tokens → run s tokens ≡ Some (end, es) → end ≡ Ended
run_ends [] s end es t h = absurd t
run_ends (t ∷ rest) s end es terminated h =
    let on_end : (after : ReadingState) → next s t ≡ Some after → (o : Option (ReadingState × List Entry)) → run after rest ≡ o → onto (finished_entries s t) o ≡ Some (end, es) → end ≡ Ended =
    λ after step o. elim o as (λ o'. run after rest ≡ o' → onto (finished_entries s t) o' ≡ Some (end, es) → end ≡ Ended) [
      | None ↦ λ k g. absurd (none-some _ g)
      | Some last ↦ λ k g.
          let parts = some_pair_parts last.0 end (finished_entries s t ++ last.1) es g in
          ⊎_elim
          (λ marker.
          let by_end : next_by s End t ≡ Some after = ap (λ r. next_by s r t) (sym (kind_role t kind.End End (λ _. refl) (ap code_of marker.0))) ∙ step in
          let nothing : Some (after, []) ≡ Some last = ap (run after) (sym marker.1) ∙ k in
          sym parts.0 ∙ sym (some_pair_parts after last.0 [] last.1 nothing).0 ∙ ends_by s t after by_end)
          (λ later. sym parts.0 ∙ run_ends rest after last.0 last.1 later.1 k)
          terminated
    ] in
    let on_step : (o : Option ReadingState) → next s t ≡ o → option_and_then (λ after. onto (finished_entries s t) (run after rest)) o ≡ Some (end, es) → end ≡ Ended =
    λ o. elim o as (λ o'. next s t ≡ o' → option_and_then (λ after. onto (finished_entries s t) (run after rest)) o' ≡ Some (end, es) → end ≡ Ended) [
      | None ↦ λ k g. absurd (none-some _ g)
      | Some after ↦ λ k g. on_end after k (run after rest) refl g
    ] in
    on_step (next s t) refl h
