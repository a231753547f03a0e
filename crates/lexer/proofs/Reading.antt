-- What the scanner reads is the next lexeme.
use Rattle.lexer.specs.Patterns.{Word, Gap, LargeLiteral, OpenComment}
use Rattle.std.proofs.Common.{◌≡◌, ℕ, ◌<◌, ◌≤◌, ◌==◌, ◌&&◌, Bool, true, false, not, List, [], ◌∷◌, ◌++◌, Some, None, length, codes, refl, sym, ap, subst, ◌∙◌, inl, inr, arith, length-append}
use Rattle.std.proofs.lemmas.Bool.{cases_Bool, cases_lt, and_from, and_parts, or_parts, not-true, eqb-true, eqb-false, leb-true, cond-true, cond-false, le-leb, lt-leb}
use Rattle.std.specs.Char.{is_ascii_digit}
use Rattle.std.specs.List.{list_all}
use Rattle.std.specs.Prelude.{nat_le}
use Rattle.std.specs.Str.Parse.{digits_value}
use Rattle.std.specs.Str.{chars, IsUtf8, IsAscii}
use Rattle.std.specs.Str.Parse.{ParsesUnsigned}
use Rattle.std.specs.Int.{IsInRange}
use Rattle.std.specs.Result.{OkIff}
use Rattle.std.specs.Prelude.{Result, Ok, Err, ◌^◌}
use Rattle.std.proofs.lemmas.Bool.Decides.{nat_tests}
use Rattle.std.proofs.lemmas.Str.{encodes-IsAscii, encodes-chars}
use Rattle.std.proofs.lemmas.Str.Ascii.{IsAscii-nil, IsAscii-cons}
use Rattle.std.proofs.lemmas.Str.Parse.{IsDigitsTest, numerals_by_value, parse_digits}
use Rattle.std.proofs.lemmas.List.{nil_from_length}
use Rattle.lexer.specs.Words.{is_white_space, may_begin}
use Rattle.unicode_ident.specs.Ident.{is_xid_continue}
use Rattle.lexer.specs.Lexeme.{Lexeme, HasNoCommentEnd}
use Rattle.lexer.proofs.Closed.{IsClosed}
use Rattle.lexer.specs.Cut.{IsNextLexeme}
use Rattle.lexer.specs.Scan.{after_run, after_close, IsTail, begins_sign}
use Rattle.lexer.specs.KindOf.{kind_of}
use Rattle.lexer.specs.TokenKind.{Integer}
use Rattle.lexer.proofs.Letters.{class_of, Other}
use Rattle.lexer.proofs.Fronts.{word_kind, literal_of}
use Rattle.lexer.proofs.Nexts.{next_literal, next_word, next_line, next_block, next_open}
use Rattle.lexer.specs.Scan.{Stops}
use Rattle.lexer.proofs.Runs.{same_before}
use Rattle.common.specs.declared.limits.TheConstants.{MAX_INTEGER}

-- a next lexeme, of equal texts
pub moved : (text other : List ℕ) (l m : Lexeme) (front a rest b : List ℕ) → text ≡ other → l ≡ m → front ≡ a
    → rest ≡ b → IsNextLexeme text l front rest → IsNextLexeme other m a b
moved text other l m front a rest b e k f h next =
    subst (λ r. IsNextLexeme other m a r) h
    (subst (λ x. IsNextLexeme other m x rest) f (subst (λ x. IsNextLexeme other x front rest) k (subst (λ t. IsNextLexeme t l front rest) e next)))

-- the front that a run passes
pub record IsRun (p : ℕ → Bool) (cs front : List ℕ) : Type 0 where
  pub text_is : cs ≡ front ++ after_run p cs
  pub passes : list_all p front ≡ true
  pub stops : Stops p (after_run p cs)

run_cons : (p : ℕ → Bool) (c : ℕ) (cs front : List ℕ) → p c ≡ true → IsRun p cs front → IsRun p (c ∷ cs) (c ∷ front)
run_cons p c cs front h run =
    let on : after_run p cs ≡ after_run p (c ∷ cs) = sym (cond-true (p c) (after_run p cs) (c ∷ cs) h) in
    record {
      text_is = ap (λ t. c ∷ t) (run.text_is ∙ ap (λ r. front ++ r) on);
      passes = and_from _ _ h run.passes;
      stops = subst (Stops p) on run.stops;
    }

run_nil : (p : ℕ → Bool) (c : ℕ) (cs : List ℕ) → p c ≡ false → IsRun p (c ∷ cs) []
run_nil p c cs h =
    let off : c ∷ cs ≡ after_run p (c ∷ cs) = sym (cond-false (p c) (after_run p cs) (c ∷ cs) h) in
    record { text_is = off; passes = refl; stops = subst (Stops p) off h }

pub run_parts : (p : ℕ → Bool) (cs : List ℕ) → (front : List ℕ) × IsRun p cs front
run_parts p [] = ([], record { text_is = refl; passes = refl; stops = tt })
run_parts p (c ∷ cs) =
    let (front, run) = run_parts p cs in
    elim (cases_Bool (p c)) [
      | inl passes ↦ (c ∷ front, run_cons p c cs front passes run)
      | inr fails ↦ ([], run_nil p c cs fails)
    ]

-- the characters before what follows a run, and the first one before it
pub record IsRunFront (p : ℕ → Bool) (cs : List ℕ) (c : ℕ) (after rest : List ℕ) : Type 0 where
  pub others : List ℕ
  pub text_is : cs ≡ c ∷ (others ++ rest)
  pub passes : list_all p others ≡ true
  pub stops : Stops p rest

pub run_front : (p : ℕ → Bool) (cs : List ℕ) (c : ℕ) (after rest : List ℕ) → cs ≡ c ∷ after → rest ≡ after_run p after
    → IsRunFront p cs c after rest
run_front p cs c after rest e k =
    let (front, run) = run_parts p after in
    record {
      others = front;
      text_is = e ∙ ap (λ t. c ∷ t) (run.text_is ∙ ap (λ r. front ++ r) (sym k));
      passes = run.passes;
      stops = subst (Stops p) (sym k) run.stops;
    }

pub run_tail : (p : ℕ → Bool) (cs : List ℕ) (c : ℕ) (after rest : List ℕ) → cs ≡ c ∷ after → rest ≡ after_run p after
    → IsTail cs rest
run_tail p cs c after rest e k = let h = run_front p cs c after rest e k in (c ∷ h.others, h.text_is)

-- a word
pub word_read : (cs : List ℕ) (c : ℕ) (after rest front : List ℕ) → cs ≡ c ∷ after → rest ≡ after_run is_xid_continue after
    → may_begin c ≡ true → cs ≡ front ++ rest → IsNextLexeme cs (Word (kind_of (word_kind front))) front rest
word_read cs c after rest front e k begins parts =
    let h = run_front is_xid_continue cs c after rest e k in
    let same : c ∷ h.others ≡ front = same_before (c ∷ h.others) front rest (sym h.text_is ∙ parts) in
    moved _ _ _ _ _ _ _ _ (sym h.text_is) (ap (λ f. Word (kind_of (word_kind f))) same) same refl
    (next_word c h.others rest begins h.passes h.stops)

-- an integer
pub literal_read : (cs : List ℕ) (c : ℕ) (after rest front : List ℕ) → cs ≡ c ∷ after
    → rest ≡ after_run is_ascii_digit after → is_ascii_digit c ≡ true → cs ≡ front ++ rest
    → IsNextLexeme cs (literal_of front) front rest × ((list_all is_ascii_digit front ≡ true) × (0 < length front))
literal_read cs c after rest front e k digit parts =
    let h = run_front is_ascii_digit cs c after rest e k in
    let same : c ∷ h.others ≡ front = same_before (c ∷ h.others) front rest (sym h.text_is ∙ parts) in
    let n = ap length same in (
      moved _ _ _ _ _ _ _ _ (sym h.text_is) (ap literal_of same) same refl
          (next_literal c h.others rest digit h.passes h.stops),
      (subst (λ f. list_all is_ascii_digit f ≡ true) same (and_from _ _ digit h.passes), omega arith),
    )

pub literal_small : (cs : List ℕ) (value : ℕ) → value ≡ digits_value 10 cs → value ≤ MAX_INTEGER
    → literal_of cs ≡ Word (Integer value)
literal_small cs value e small =
    let test : nat_le (digits_value 10 cs) MAX_INTEGER ≡ true = le-leb _ _ (subst (λ v. v ≤ MAX_INTEGER) e small) in
    cond-true (nat_le (digits_value 10 cs) MAX_INTEGER) _ _ test ∙ ap (λ v. Word (Integer v)) (sym e)

pub literal_large : (cs : List ℕ) → MAX_INTEGER < digits_value 10 cs → literal_of cs ≡ LargeLiteral
literal_large cs large = cond-false (nat_le (digits_value 10 cs) MAX_INTEGER) _ _ (lt-leb _ _ large)

-- a comment to the end of the line
pub line_read : (cs body rest : List ℕ) → cs ≡ 47 ∷ 47 ∷ body → rest ≡ after_run (λ c. not (c == 10)) body
    → (front : List ℕ) × IsNextLexeme cs Gap front rest
line_read cs body rest e k =
    let h = run_front (λ c. not (c == 10)) (47 ∷ body) 47 body rest refl k in (
      47 ∷ 47 ∷ h.others,
      moved _ _ _ _ _ _ _ _ (sym (e ∙ ap (λ t. 47 ∷ t) h.text_is)) refl refl refl
          (next_line h.others rest h.passes h.stops),
    )

-- the character begins no `*/`
abbrev pub BeginsNoClose : ℕ → List ℕ → Type 0
BeginsNoClose c cs = (after : List ℕ) → c ≡ 42 → cs ≡ 47 ∷ after → ⊥

open_cons : (c : ℕ) (cs : List ℕ) → BeginsNoClose c cs → HasNoCommentEnd cs → HasNoCommentEnd (c ∷ cs)
open_cons c cs none unclosed [] after e = none after (cc) (cc)
open_cons c cs none unclosed (b ∷ before) after e = unclosed before after (cc)

once_cons : (c : ℕ) (cs : List ℕ) → BeginsNoClose c cs
    → ((before after : List ℕ) → cs ≡ before ++ (codes "*/" ++ after) → after ≡ [])
    → (before after : List ℕ) → c ∷ cs ≡ before ++ (codes "*/" ++ after) → after ≡ []
once_cons c cs none once [] after e = absurd (none after (cc) (cc))
once_cons c cs none once (b ∷ before) after e = once before after (cc)

closed_cons : (c : ℕ) (cs : List ℕ) → BeginsNoClose c cs → IsClosed cs → IsClosed (c ∷ cs)
closed_cons c cs none closed = record {
  inner = c ∷ closed.inner;
  ends = ap (λ t. c ∷ t) closed.ends;
  once = once_cons c cs none closed.once;
}

-- the characters, after the `*` that came before them, if one did
abbrev pub beyond : Bool → List ℕ → List ℕ
beyond true cs = 42 ∷ cs
beyond false cs = cs

unstar_open : (b : Bool) (c : ℕ) (cs : List ℕ) → (c == 42) ≡ b → HasNoCommentEnd (beyond b cs) → HasNoCommentEnd (c ∷ cs)
unstar_open true c cs e h = subst (λ x. HasNoCommentEnd (x ∷ cs)) (sym (eqb-true c 42 e)) h
unstar_open false c cs e h = open_cons c cs (λ after k m. eqb-false c 42 e k) h

unstar_closed : (b : Bool) (c : ℕ) (cs : List ℕ) → (c == 42) ≡ b → IsClosed (beyond b cs) → IsClosed (c ∷ cs)
unstar_closed true c cs e h = subst (λ x. IsClosed (x ∷ cs)) (sym (eqb-true c 42 e)) h
unstar_closed false c cs e h = closed_cons c cs (λ after k m. eqb-false c 42 e k) h

star_open : (s : Bool) (c : ℕ) (cs : List ℕ) → (s && c == 47) ≡ false → HasNoCommentEnd (c ∷ cs) → HasNoCommentEnd (beyond s (c ∷ cs))
star_open false c cs e h = h
star_open true c cs e h = open_cons 42 (c ∷ cs) (λ after k m. let f : c ≡ 47 = cc in eqb-false c 47 e f) h

star_closed : (s : Bool) (c : ℕ) (cs : List ℕ) → (s && c == 47) ≡ false → IsClosed (c ∷ cs)
    → IsClosed (beyond s (c ∷ cs))
star_closed false c cs e h = h
star_closed true c cs e h = closed_cons 42 (c ∷ cs) (λ after k m. let f : c ≡ 47 = cc in eqb-false c 47 e f) h

open_nil : HasNoCommentEnd []
open_nil [] after e = cc
open_nil (b ∷ before) after e = cc

open_end : (s : Bool) → HasNoCommentEnd (beyond s [])
open_end false = open_nil
open_end true = open_cons 42 [] (λ after k m. cc) open_nil

once_pair : (before after : List ℕ) → 42 ∷ 47 ∷ [] ≡ before ++ (codes "*/" ++ after) → after ≡ []
once_pair before after e =
    let n = ap length e ∙ length-append before (codes "*/" ++ after) in
    nil_from_length after (omega arith)

closed_end : (s : Bool) (c : ℕ) → (s && c == 47) ≡ true → IsClosed (beyond s (c ∷ []))
closed_end s c e =
    let (starred, solidus) = and_parts s (c == 47) e in
    let pair : IsClosed (beyond true (47 ∷ [])) = record { inner = []; ends = refl; once = once_pair } in
    subst (λ t. IsClosed (beyond t (c ∷ []))) (sym starred)
    (subst (λ x. IsClosed (beyond true (x ∷ []))) (sym (eqb-true c 47 solidus)) pair)

close_none : (s : Bool) (cs : List ℕ) → after_close s cs ≡ None → HasNoCommentEnd (beyond s cs)
close_none s [] e = open_end s
close_none s (c ∷ cs) e =
    elim (cases_Bool (s && c == 47)) [
      | inl ends ↦
          let both : Some cs ≡ None = sym (cond-true (s && c == 47) (Some cs) (after_close (c == 42) cs) ends) ∙ e in
          absurd cc
      | inr on ↦
          let others : after_close (c == 42) cs ≡ None = sym (cond-false (s && c == 47) (Some cs) (after_close (c == 42) cs) on) ∙ e in
          star_open s c cs on (unstar_open (c == 42) c cs refl (close_none (c == 42) cs others))
    ]

close_some : (s : Bool) (cs rest : List ℕ) → after_close s cs ≡ Some rest
    → (body : List ℕ) × ((cs ≡ body ++ rest) × IsClosed (beyond s body))
close_some s [] rest e = absurd cc
close_some s (c ∷ cs) rest e =
    elim (cases_Bool (s && c == 47)) [
      | inl ends ↦
          let both : Some cs ≡ Some rest = sym (cond-true (s && c == 47) (Some cs) (after_close (c == 42) cs) ends) ∙ e in
          let same : cs ≡ rest = cc in
          (c ∷ [], (ap (λ t. c ∷ t) same, closed_end s c ends))
      | inr on ↦
          let others : after_close (c == 42) cs ≡ Some rest = sym (cond-false (s && c == 47) (Some cs) (after_close (c == 42) cs) on) ∙ e in
          let (body, (parts, closed)) = close_some (c == 42) cs rest others in
          (c ∷ body, (ap (λ t. c ∷ t) parts, star_closed s c body on (unstar_closed (c == 42) c body refl closed)))
    ]

-- a comment that ends, and one that does not
pub block_read : (cs body rest : List ℕ) → cs ≡ 47 ∷ 42 ∷ body → after_close false body ≡ Some rest
    → (front : List ℕ) × IsNextLexeme cs Gap front rest
block_read cs body rest e k =
    let (inner, (parts, closed)) = close_some false body rest k in (
      47 ∷ 42 ∷ inner,
      moved _ _ _ _ _ _ _ _ (sym (e ∙ ap (λ t. 47 ∷ 42 ∷ t) parts)) refl refl refl
          (next_block inner rest closed),
    )

pub open_read : (cs body : List ℕ) → cs ≡ 47 ∷ 42 ∷ body → after_close false body ≡ None
    → (front : List ℕ) × ((rest : List ℕ) × IsNextLexeme cs OpenComment front rest)
open_read cs body e k =
    (47 ∷ 42 ∷ body, ([], moved _ _ _ _ _ _ _ _ (sym e) refl refl refl (next_open body (close_none false body k))))

-- the class of a character that begins no lexeme but a sign
pub class-sign : (c : ℕ) → begins_sign c ≡ true → class_of c ≡ Other
class-sign c h =
    let (plain, not_solidus) = or_parts _ _ (not-true _ h) in
    let (neither, not_begun) = or_parts _ _ plain in
    let (dark, not_digit) = or_parts _ _ neither in
    cond-false (is_white_space c) _ _ dark
    ∙ (cond-false (is_ascii_digit c) _ _ not_digit
    ∙ (cond-false (may_begin c) _ _ not_begun ∙ cond-false (c == 47) _ _ not_solidus))

-- a text of digits is its characters
pub digits_ascii : (cs : List ℕ) → list_all is_ascii_digit cs ≡ true → IsAscii cs
digits_ascii [] all = IsAscii-nil
digits_ascii (c ∷ cs) all =
    let (first, others) = and_parts _ _ all in
    IsAscii-cons c cs (digit_small c first) (digits_ascii cs others)
  where
    digit_small : (c : ℕ) → is_ascii_digit c ≡ true → c < 128
    digit_small c h = grind (arith, nat_tests)

pub digits_text : (bs : List ℕ) → IsUtf8 bs → list_all is_ascii_digit (chars bs) ≡ true → chars bs ≡ bs
digits_text bs utf8 all = sym (encodes-IsAscii (chars bs) (digits_ascii (chars bs) all)) ∙ encodes-chars bs utf8

digit_range : (c : ℕ) → is_ascii_digit c ≡ true → IsInRange 48 57 c
digit_range c h = (leb-true 48 c (and_parts _ _ h).0, leb-true c 57 (and_parts _ _ h).1)

range_digit : (c : ℕ) → IsInRange 48 57 c → is_ascii_digit c ≡ true
range_digit c range = and_from _ _ (le-leb 48 c range.0) (le-leb c 57 range.1)

digits_test : IsDigitsTest (λ ds. list_all is_ascii_digit ds ≡ true)
digits_test = record {
  empty = refl;
  parts = λ c cs all. (digit_range c (and_parts _ _ all).0, (and_parts _ _ all).1);
  more = λ c cs range all. and_from _ _ (range_digit c range) all;
}

-- `parse` reads the number that the digits write, or it is too large for the type
parsed : {E : Type 0} (bs : List ℕ) (r : Result ℕ E) → ParsesUnsigned 32 10 bs r → list_all is_ascii_digit bs ≡ true
    → OkIff r ((0 < length bs) × (digits_value 10 bs < 2 ^ 32)) (digits_value 10 bs)
parsed bs r h all = parse_digits (numerals_by_value (λ ds. list_all is_ascii_digit ds ≡ true) digits_test) 32 bs r h all

pub parsed_ok : {E : Type 0} (bs : List ℕ) (r : Result ℕ E) (value : ℕ) → ParsesUnsigned 32 10 bs r → IsUtf8 bs
    → list_all is_ascii_digit (chars bs) ≡ true → r ≡ Ok value → value ≡ digits_value 10 (chars bs)
parsed_ok {E} bs r value h utf8 all e =
    let same = digits_text bs utf8 all in
    let digits = subst (λ t. list_all is_ascii_digit t ≡ true) same all in
    let P : Result ℕ E → Type 0 = λ x. OkIff x ((0 < length bs) × (digits_value 10 bs < 2 ^ 32)) (digits_value 10 bs) in
    (subst P e (parsed bs r h digits)).1 ∙ ap (digits_value 10) (sym same)

pub parsed_err : {E : Type 0} (bs : List ℕ) (r : Result ℕ E) (fault : E) → ParsesUnsigned 32 10 bs r → IsUtf8 bs
    → list_all is_ascii_digit (chars bs) ≡ true → 0 < length (chars bs) → r ≡ Err fault
    → MAX_INTEGER < digits_value 10 (chars bs)
parsed_err {E} bs r fault h utf8 all some e =
    let same = digits_text bs utf8 all in
    let digits = subst (λ t. list_all is_ascii_digit t ≡ true) same all in
    let P : Result ℕ E → Type 0 = λ x. OkIff x ((0 < length bs) × (digits_value 10 bs < 2 ^ 32)) (digits_value 10 bs) in
    let large = subst P e (parsed bs r h digits) in
    subst (λ t. MAX_INTEGER < digits_value 10 t) (sym same) (above bs (subst (λ t. 0 < length t) same some) large)
  where
    above : (bs : List ℕ) → 0 < length bs → ((0 < length bs) × (digits_value 10 bs < 2 ^ 32) → ⊥)
        → MAX_INTEGER < digits_value 10 bs
    above bs some none =
        elim (cases_lt MAX_INTEGER (digits_value 10 bs)) [
          | inl large ↦ large
          | inr small ↦ absurd (none (some, omega arith))
        ]
