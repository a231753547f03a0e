-- Each text is cut, or it is refused.
use Rattle.lexer.specs.Patterns.{Word, Gap, LargeLiteral, OpenComment, Token, Between}
use Rattle.std.proofs.Common.{◌≡◌, ◌⊎◌, ℕ, zero, suc, ◌+◌, ◌<◌, ◌≤◌, ◌==◌, true, false, not, List, [], ◌∷◌, ◌++◌, Option, Some, None, length, refl, sym, ap, subst, arith, inl, inr, length-append}
use Rattle.std.proofs.lemmas.Bool.{cases_Bool, cases_eq, eqb-true, or_from, not_from_false}
use Rattle.std.proofs.lemmas.Str.{encodes-chars}
use Rattle.std.specs.Char.{is_ascii_digit}
use Rattle.std.specs.Str.{chars, IsUtf8}
use Rattle.lexer.specs.Terminal.{Terminal}
use Rattle.lexer.specs.Words.{is_white_space, may_begin}
use Rattle.unicode_ident.specs.Ident.{is_xid_continue}
use Rattle.lexer.specs.Lexeme.{Lexeme, Refused, IsLexeme, Blank, LineComment, BlockComment, Unended, FixedWord, Identifier, Literal, TooLarge}
use Rattle.lexer.specs.Cut.{Cuts, Nothing, IsNextLexeme, IsCut, IsRefusedFor, terminal_at, size}
use Rattle.lexer.specs.Laws.{IsCutOrRefused}
use Rattle.lexer.specs.Scan.{after_close, after_run, IsNoDouble, IsNoTriple, IsStuck}
use Rattle.lexer.specs.KindOf.{kind_of}
use Rattle.lexer.specs.KindRows.{sign_of}
use Rattle.lexer.specs.TokenKind.{TokenKind, End}
use Rattle.lexer.specs.declared.token.Kind.{Kind}
use Rattle.common.specs.declared.refusal.RefusalAt.{RefusalAt}
use Rattle.lexer.specs.declared.fault.LexRefusalKind.{LexRefusalKind}
use Rattle.lexer.specs.declared.fault.LexRefusalKind.TheVariants.{NoToken, LiteralTooLarge, UnclosedComment}
use Rattle.lexer.proofs.Letters.{class_of, Other}
use Rattle.lexer.proofs.Fronts.{nonempty}
use Rattle.lexer.proofs.Nexts.{next_white, next_literal, next_word, next_solidus, next_triple, next_double, next_single, none_next}
use Rattle.lexer.proofs.Reading.{moved, run_parts, line_read, block_read, open_read, class-sign}
use Rattle.lexer.proofs.Listed.{cut_size}

-- a text has a next lexeme, or none
data Found (text : List ℕ) : Type 0 where
  Next : (lexeme : Lexeme) (front rest : List ℕ) → IsNextLexeme text lexeme front rest → Found text
  Absent : IsRefusedFor text NoToken → Found text

find_single : (c : ℕ) (cs : List ℕ) → class_of c ≡ Other → IsNoTriple c cs → IsNoDouble c cs → (single : Option Kind)
    → sign_of (c ∷ []) ≡ single → Found (c ∷ cs)
find_single c cs class short alone None e = Absent (none_next c cs class e short alone)
find_single c cs class short alone (Some kind) e =
    Next (Word (kind_of kind)) (c ∷ []) cs (next_single c cs kind class e short alone)

find_double : (c d : ℕ) (cs : List ℕ) → class_of c ≡ Other → IsNoTriple c (d ∷ cs) → (double : Option Kind)
    → sign_of (c ∷ d ∷ []) ≡ double → Found (c ∷ d ∷ cs)
find_double c d cs class short None e = find_single c (d ∷ cs) class short e (sign_of (c ∷ [])) refl
find_double c d cs class short (Some kind) e =
    Next (Word (kind_of kind)) (c ∷ d ∷ []) cs (next_double c d cs kind class e short)

find_triple : (c d f : ℕ) (cs : List ℕ) → class_of c ≡ Other → (triple : Option Kind)
    → sign_of (c ∷ d ∷ f ∷ []) ≡ triple → Found (c ∷ d ∷ f ∷ cs)
find_triple c d f cs class None e = find_double c d (f ∷ cs) class e (sign_of (c ∷ d ∷ [])) refl
find_triple c d f cs class (Some kind) e =
    Next (Word (kind_of kind)) (c ∷ d ∷ f ∷ []) cs (next_triple c d f cs kind class e)

find_sign : (c : ℕ) (cs : List ℕ) → class_of c ≡ Other → Found (c ∷ cs)
find_sign c [] class = find_single c [] class tt tt (sign_of (c ∷ [])) refl
find_sign c (d ∷ []) class = find_double c d [] class tt (sign_of (c ∷ d ∷ [])) refl
find_sign c (d ∷ f ∷ cs) class = find_triple c d f cs class (sign_of (c ∷ d ∷ f ∷ [])) refl

find_comment : (body : List ℕ) (closed : Option (List ℕ)) → after_close false body ≡ closed → Found (47 ∷ 42 ∷ body)
find_comment body None e = let (front, (rest, next)) = open_read (47 ∷ 42 ∷ body) body refl e in Next OpenComment front rest next
find_comment body (Some rest) e = let (front, next) = block_read (47 ∷ 42 ∷ body) body rest refl e in Next Gap front rest next

find_solidus : (cs : List ℕ) → Found (47 ∷ cs)
find_solidus [] = Next (Word _) (47 ∷ []) [] (next_solidus [] tt tt)
find_solidus (d ∷ cs) =
    elim (cases_eq d 47) [
      | inl line ↦
          let (front, next) = line_read (47 ∷ d ∷ cs) cs (after_run (λ c. not (c == 10)) cs) (ap (λ x. 47 ∷ x ∷ cs) line) refl in
          Next Gap front (after_run (λ c. not (c == 10)) cs) next
      | inr no_line ↦ elim (cases_eq d 42) [
        | inl block ↦ subst (λ x. Found (47 ∷ x ∷ cs)) (sym block) (find_comment cs (after_close false cs) refl)
        | inr no_block ↦ Next (Word _) (47 ∷ []) (d ∷ cs) (next_solidus (d ∷ cs) no_line no_block)
      ]
    ]

find_literal : (c : ℕ) (cs : List ℕ) → is_ascii_digit c ≡ true → Found (c ∷ cs)
find_literal c cs digit =
    let (front, run) = run_parts is_ascii_digit cs in
    Next _ (c ∷ front) (after_run is_ascii_digit cs)
    (moved _ _ _ _ _ _ _ _ (ap (λ t. c ∷ t) (sym run.text_is)) refl refl refl
    (next_literal c front (after_run is_ascii_digit cs) digit run.passes run.stops))

find_word : (c : ℕ) (cs : List ℕ) → may_begin c ≡ true → Found (c ∷ cs)
find_word c cs begins =
    let (front, run) = run_parts is_xid_continue cs in
    Next _ (c ∷ front) (after_run is_xid_continue cs)
    (moved _ _ _ _ _ _ _ _ (ap (λ t. c ∷ t) (sym run.text_is)) refl refl refl
    (next_word c front (after_run is_xid_continue cs) begins run.passes run.stops))

found : (c : ℕ) (cs : List ℕ) → Found (c ∷ cs)
found c cs =
    elim (cases_Bool (is_white_space c)) [
      | inl white ↦ Next Gap (c ∷ []) cs (next_white c cs white)
      | inr dark ↦ elim (cases_Bool (is_ascii_digit c)) [
        | inl digit ↦ find_literal c cs digit
        | inr plain ↦ elim (cases_Bool (may_begin c)) [
          | inl begins ↦ find_word c cs begins
          | inr other ↦ elim (cases_Bool (c == 47)) [
            | inl solidus ↦ subst (λ x. Found (x ∷ cs)) (sym (eqb-true c 47 solidus)) (find_solidus cs)
            | inr sign ↦ find_sign c cs (class-sign c (not_from_false _ (or_from _ _ (or_from _ _ (or_from _ _ dark plain) other) sign)))
          ]
        ]
      ]
    ]

-- a text that is cut as far as it goes
record Cutting (start : ℕ) (text : List ℕ) : Type 0 where
  words : List Terminal
  end : ℕ
  rest : List ℕ
  cuts : Cuts start text words end rest
  stops : (rest ≡ []) ⊎ ((fault : RefusalAt LexRefusalKind) × IsStuck end rest fault)

stuck : (start : ℕ) (text : List ℕ) (kind : LexRefusalKind) → IsRefusedFor text kind → Cutting start text
stuck start text kind h = record {
  words = [];
  end = start;
  rest = text;
  cuts = Nothing start text;
  stops = inr (record { kind = kind; at = start }, (refl, h));
}

shorter : (lexeme : Lexeme) (text front rest : List ℕ) → IsNextLexeme text lexeme front rest → length rest < length text
shorter lexeme text [] rest next = absurd (nonempty lexeme [] next.is refl)
shorter lexeme text (c ∷ front) rest next =
    let n : length text ≡ suc (length (front ++ rest)) = ap length next.text_is in
    let m = length-append front rest in
    omega arith

goes_on : (start : ℕ) (text : List ℕ) (kind : TokenKind) (front left : List ℕ) → IsNextLexeme text (Word kind) front left
    → Cutting (start + size front) left → Cutting start text
goes_on start text kind front left next c = record {
  words = terminal_at start kind front ∷ c.words;
  end = c.end;
  rest = c.rest;
  cuts = Token start text kind front left c.words c.end c.rest next c.cuts;
  stops = c.stops;
}

passes : (start : ℕ) (text front left : List ℕ) → IsNextLexeme text Gap front left → Cutting (start + size front) left
    → Cutting start text
passes start text front left next c = record {
  words = c.words;
  end = c.end;
  rest = c.rest;
  cuts = Between start text front left c.words c.end c.rest next c.cuts;
  stops = c.stops;
}

-- no characters are a lexeme that is refused for being none
no_lexeme : (lexeme : Lexeme) (front : List ℕ) → IsLexeme lexeme front → lexeme ≡ Refused NoToken → ⊥
no_lexeme _ _ (Blank c is) e = cc
no_lexeme _ _ (LineComment cs is) e = cc
no_lexeme _ _ (BlockComment cs is) e = cc
no_lexeme _ _ (Unended cs is) e = cc
no_lexeme _ _ (FixedWord cs is) e = cc
no_lexeme _ _ (Identifier cs is) e = cc
no_lexeme _ _ (Literal cs is small) e = cc
no_lexeme _ _ (TooLarge cs is large) e = cc

-- the cut from a lexeme on, given the cut of what follows it
from_next : (start : ℕ) (text : List ℕ) (lexeme : Lexeme) (front left : List ℕ) → IsNextLexeme text lexeme front left
    → Cutting (start + size front) left → Cutting start text
from_next start text (Word kind) front left next c = goes_on start text kind front left next c
from_next start text Gap front left next c = passes start text front left next c
from_next start text LargeLiteral front left next c = stuck start text LiteralTooLarge (front, left, next)
from_next start text OpenComment front left next c = stuck start text UnclosedComment (front, left, next)
from_next start text (Refused NoToken) front left next c = absurd (no_lexeme (Refused NoToken) front next.is refl)

cutting : (fuel start : ℕ) (text : List ℕ) → length text ≤ fuel → Cutting start text
cutting fuel start [] short = record { words = []; end = start; rest = []; cuts = Nothing start []; stops = inl refl }
cutting zero start (c ∷ cs) short = absurd (omega arith)
cutting (suc fuel) start (c ∷ cs) short =
    elim (found c cs) [
      | Next lexeme front left next ↦
          let less = shorter lexeme (c ∷ cs) front left next in
          from_next start (c ∷ cs) lexeme front left next (cutting fuel (start + size front) left (omega arith))
      | Absent none ↦ stuck start (c ∷ cs) NoToken none
    ]

cut_to_end : (text : List ℕ) → IsUtf8 text → (c : Cutting 0 (chars text)) → c.rest ≡ []
    → (tokens : List Terminal) × IsCut text tokens
cut_to_end text utf8 c e =
    let n = cut_size 0 (chars text) c.words c.end c.rest c.cuts in
    let m = ap length (encodes-chars text utf8) in
    let k = ap size e in
    let all : c.end ≡ length text = omega arith in (
      c.words ++ terminal_at (length text) End [] ∷ [],
      record {
        words = c.words;
        cuts = subst (λ p. Cuts 0 (chars text) c.words p []) all (subst (λ r. Cuts 0 (chars text) c.words c.end r) e c.cuts);
        ended = refl;
      },
    )

pub is_cut_or_refused : IsCutOrRefused
is_cut_or_refused text utf8 =
    let c = cutting (length (chars text)) 0 (chars text) (omega arith) in
    elim c.stops [
      | inl e ↦ inl (cut_to_end text utf8 c e)
      | inr refusal ↦ inr (refusal.0, record { words = c.words; rest = c.rest; cuts = subst (λ p. Cuts 0 (chars text) c.words p c.rest) (sym refusal.1.0) c.cuts; stuck = refusal.1.1 })
    ]
