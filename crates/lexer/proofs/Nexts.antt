-- The next lexeme of a text, by what the text begins with; there is at most one.
use Rattle.lexer.specs.Patterns.{Word, Gap, OpenComment}
use Rattle.std.proofs.Common.{◌≡◌, ℕ, suc, ◌≤◌, ◌==◌, true, not, List, [], ◌∷◌, ◌++◌, Option, Some, None, length, codes, refl, sym, ap, subst, ◌∙◌, inl, inr, arith, unwrap_or, is_some, append_assoc, append-nil}
use Rattle.std.proofs.lemmas.Bool.{cases_Bool, cases_lt, and_from, leb-true, leb-false, cond-true, cond-false}
use Rattle.std.specs.Char.{is_ascii_digit}
use Rattle.std.specs.List.{list_all}
use Rattle.std.specs.Prelude.{nat_le}
use Rattle.std.specs.Str.Parse.{digits_value}
use Rattle.std.proofs.lemmas.List.Prefix.{front_fits}
use Rattle.lexer.specs.Words.{is_white_space, is_identifier, may_begin}
use Rattle.lexer.specs.KindOf.{kind_of}
use Rattle.lexer.specs.KindRows.{keyword_of, sign_of}
use Rattle.unicode_ident.specs.Ident.{is_xid_continue}
use Rattle.lexer.specs.Lexeme.{Lexeme, IsLexeme, Blank, LineComment, BlockComment, Unended, Identifier, Literal, TooLarge, IsInLine, HasNoCommentEnd, IsNumeral}
use Rattle.lexer.proofs.Closed.{IsClosed, open_before}
use Rattle.lexer.specs.Cut.{IsNextLexeme, IsRefusedFor}
use Rattle.lexer.specs.declared.fault.LexRefusalKind.TheVariants.{NoToken}
use Rattle.lexer.specs.Scan.{IsNoDouble, IsNoTriple}
use Rattle.lexer.specs.declared.token.Kind.{Kind}
use Rattle.lexer.specs.declared.token.Kind.TheVariants as kinds
use Rattle.lexer.proofs.Fixed.{is_keyword, keyword_is, sign_is}
use Rattle.lexer.proofs.Letters.{Class, White, Digit, Letter, Solidus, Other, class_of, class-White, class-Digit, class-Letter, class-Solidus}
use Rattle.lexer.proofs.Fronts.{Front, AfterSolidus, Alone, Line, Block, Unclosed, word_kind, literal_of, shape, nonempty}
use Rattle.lexer.specs.Scan.{Stops}
use Rattle.lexer.proofs.Runs.{run_longest, longer_front, same_front}
use Rattle.common.specs.declared.limits.TheConstants.{MAX_INTEGER}

-- a lexeme at the front of a text that begins with c, where c is of this class
opened : (k : Class) (c : ℕ) (cs : List ℕ) → class_of c ≡ k → (lexeme : Lexeme) (front more : List ℕ)
    → IsLexeme lexeme front → c ∷ cs ≡ front ++ more
    → (tail : List ℕ) × ((front ≡ c ∷ tail) × ((cs ≡ tail ++ more) × Front k c tail lexeme))
opened k c cs class lexeme [] more h e = absurd (nonempty lexeme [] h refl)
opened k c cs class lexeme (d ∷ tail) more h e =
    let first : d ≡ c = cc in
    let others : cs ≡ tail ++ more = cc in
    let here : d ∷ tail ≡ c ∷ tail = ap (λ x. x ∷ tail) first in
    (tail, (here, (others, subst (λ x. Front x c tail lexeme) class (shape lexeme (d ∷ tail) c tail h here))))

-- the lexemes that pass a bound on what follows their first character are no longer than the front
bounded : (k : Class) (c : ℕ) (cs : List ℕ) (most : ℕ) → class_of c ≡ k
    → ((lexeme : Lexeme) (tail more : List ℕ) → cs ≡ tail ++ more → Front k c tail lexeme → length tail ≤ most)
    → (other : Lexeme) (longer more : List ℕ) → IsLexeme other longer → c ∷ cs ≡ longer ++ more
    → length longer ≤ suc most
bounded k c cs most class bound other longer more h e =
    let (tail, (here, (others, front))) = opened k c cs class other longer more h e in
    let n : length longer ≡ length (c ∷ tail) = ap length here in
    let short : length tail ≤ most = bound other tail more others front in
    omega arith

pub next_white : (c : ℕ) (cs : List ℕ) → is_white_space c ≡ true → IsNextLexeme (c ∷ cs) Gap (c ∷ []) cs
next_white c cs white = record {
  text_is = refl;
  is = Blank c white;
  longest = bounded White c cs 0 (class-White c white)
      (λ lexeme tail more e front. let n = ap length front.1 in omega arith);
}

-- an integer is a lexeme, and of one kind
literal_is : (cs : List ℕ) → IsNumeral cs → IsLexeme (literal_of cs) cs
literal_is cs numeral =
    let P : Lexeme → Type 0 = λ lexeme. IsLexeme lexeme cs in
    elim (cases_Bool (nat_le (digits_value 10 cs) MAX_INTEGER)) [
      | inl small ↦ subst P (sym (cond-true (nat_le (digits_value 10 cs) MAX_INTEGER) _ _ small)) (Literal cs numeral (leb-true _ _ small))
      | inr large ↦ subst P (sym (cond-false (nat_le (digits_value 10 cs) MAX_INTEGER) _ _ large)) (TooLarge cs numeral (leb-false _ _ large))
    ]

pub next_literal : (c : ℕ) (cs rest : List ℕ) → is_ascii_digit c ≡ true → list_all is_ascii_digit cs ≡ true
    → Stops is_ascii_digit rest → IsNextLexeme (c ∷ (cs ++ rest)) (literal_of (c ∷ cs)) (c ∷ cs) rest
next_literal c cs rest digit digits stops = record {
  text_is = refl;
  is = literal_is (c ∷ cs) (record { nonempty = omega arith; digits = and_from _ _ digit digits });
  longest = bounded Digit c (cs ++ rest) (length cs) (class-Digit c digit)
      (λ lexeme tail more e front. run_longest is_ascii_digit cs rest tail more stops front.1 e);
}

-- an identifier is a lexeme, and of one kind
word_is : (cs : List ℕ) → is_identifier cs ≡ true → IsLexeme (Word (kind_of (word_kind cs))) cs
word_is cs identifier = word_at (keyword_of cs) refl
  where
    word_at : (found : Option Kind) → keyword_of cs ≡ found → IsLexeme (Word (kind_of (unwrap_or found kinds.Name))) cs
    word_at None e = Identifier cs (and_from _ _ identifier (ap not (is_keyword cs) ∙ ap (λ o. not (is_some o)) e))
    word_at (Some kind) e = keyword_is cs kind e

pub next_word : (c : ℕ) (cs rest : List ℕ) → may_begin c ≡ true → list_all is_xid_continue cs ≡ true
    → Stops is_xid_continue rest → IsNextLexeme (c ∷ (cs ++ rest)) (Word (kind_of (word_kind (c ∷ cs)))) (c ∷ cs) rest
next_word c cs rest begins continues stops = record {
  text_is = refl;
  is = word_is (c ∷ cs) (and_from _ _ begins continues);
  longest = bounded Letter c (cs ++ rest) (length cs) (class-Letter c begins)
      (λ lexeme tail more e front. run_longest is_xid_continue cs rest tail more stops front.1 e);
}

-- `/` and `*` are two characters
parted : (xs ys : List ℕ) → 47 ∷ xs ≡ 42 ∷ ys → ⊥
parted xs ys e = let first : ◌≡◌ {A = ℕ} 47 42 = cc in omega arith

-- what follows a `/`, which is the list `cs`, and what a lexeme takes of it
after_line : (cs rest : List ℕ) → Stops (λ c. not (c == 10)) rest → (lexeme : Lexeme) (tail more : List ℕ)
    → 47 ∷ (cs ++ rest) ≡ tail ++ more → AfterSolidus tail lexeme → length tail ≤ suc (length cs)
after_line cs rest stops lexeme tail more e Alone = omega arith
after_line cs rest stops lexeme tail more e (Line body line) =
    let others : cs ++ rest ≡ body ++ more = cc in
    let short : length body ≤ length cs = run_longest (λ c. not (c == 10)) cs rest body more stops line others in
    omega arith
after_line cs rest stops lexeme tail more e (Block body closed) = absurd (parted _ _ e)
after_line cs rest stops lexeme tail more e (Unclosed body unclosed) = absurd (parted _ _ e)

pub next_line : (cs rest : List ℕ) → IsInLine cs → Stops (λ c. not (c == 10)) rest
    → IsNextLexeme (47 ∷ 47 ∷ (cs ++ rest)) Gap (47 ∷ 47 ∷ cs) rest
next_line cs rest line stops = record {
  text_is = refl;
  is = LineComment cs line;
  longest = bounded Solidus 47 (47 ∷ (cs ++ rest)) (suc (length cs)) class-Solidus (after_line cs rest stops);
}

-- no lexeme goes on after the first `*/` of a comment
closed_shortest : (cs rest body more : List ℕ) → IsClosed cs → cs ++ rest ≡ body ++ more
    → ((before after : List ℕ) → body ≡ before ++ (codes "*/" ++ after) → after ≡ []) → length body ≤ length cs
closed_shortest cs rest body more closed e once =
    elim (cases_lt (length cs) (length body)) [
      | inr short ↦ short
      | inl long ↦
          let (x, (goes_on, _)) = longer_front cs rest body more e (omega arith) in
          let apart : body ≡ closed.inner ++ (codes "*/" ++ x) = goes_on ∙ (ap (λ l. l ++ x) closed.ends ∙ append_assoc closed.inner (codes "*/") x) in
          let none = ap length (once closed.inner x apart) in
          let whole : body ≡ cs = goes_on ∙ (ap (λ l. cs ++ l) (once closed.inner x apart) ∙ append-nil cs) in
          let n = ap length whole in
          omega arith
    ]

after_block : (cs rest : List ℕ) → IsClosed cs → (lexeme : Lexeme) (tail more : List ℕ)
    → 42 ∷ (cs ++ rest) ≡ tail ++ more → AfterSolidus tail lexeme → length tail ≤ suc (length cs)
after_block cs rest closed lexeme tail more e Alone = omega arith
after_block cs rest closed lexeme tail more e (Line body line) = absurd (parted _ _ (sym e))
after_block cs rest closed lexeme tail more e (Block body other) =
    let others : cs ++ rest ≡ body ++ more = cc in
    let short : length body ≤ length cs = closed_shortest cs rest body more closed others other.once in
    omega arith
after_block cs rest closed lexeme tail more e (Unclosed body unclosed) =
    let others : cs ++ rest ≡ body ++ more = cc in
    let short : length body ≤ length cs = closed_shortest cs rest body more closed others (λ before after h. absurd (unclosed before after h)) in
    omega arith

pub next_block : (cs rest : List ℕ) → IsClosed cs → IsNextLexeme (47 ∷ 42 ∷ (cs ++ rest)) Gap (47 ∷ 42 ∷ cs) rest
next_block cs rest closed = record {
  text_is = refl;
  is = subst (λ t. IsLexeme Gap (47 ∷ 42 ∷ t)) (sym closed.ends) (BlockComment closed.inner (open_before cs closed));
  longest = bounded Solidus 47 (42 ∷ (cs ++ rest)) (suc (length cs)) class-Solidus (after_block cs rest closed);
}

pub next_open : (cs : List ℕ) → HasNoCommentEnd cs → IsNextLexeme (47 ∷ 42 ∷ cs) OpenComment (47 ∷ 42 ∷ cs) []
next_open cs unclosed = record {
  text_is = sym (append-nil (47 ∷ 42 ∷ cs));
  is = Unended cs unclosed;
  longest = λ other longer more h e. front_fits (47 ∷ 42 ∷ cs) longer more e;
}

-- the list does not begin with the character
abbrev pub IsNotFirst : ℕ → List ℕ → Type 0
IsNotFirst c [] = Unit {0}
IsNotFirst c (d ∷ cs) = d ≡ c → ⊥

after_alone : (cs : List ℕ) → IsNotFirst 47 cs → IsNotFirst 42 cs → (lexeme : Lexeme) (tail more : List ℕ)
    → cs ≡ tail ++ more → AfterSolidus tail lexeme → length tail ≤ 0
after_alone cs no_line no_block lexeme tail more e Alone = omega arith
after_alone cs no_line no_block lexeme tail more e (Line body line) = absurd (subst (IsNotFirst 47) e no_line refl)
after_alone cs no_line no_block lexeme tail more e (Block body closed) = absurd (subst (IsNotFirst 42) e no_block refl)
after_alone cs no_line no_block lexeme tail more e (Unclosed body unclosed) = absurd (subst (IsNotFirst 42) e no_block refl)

pub next_solidus : (cs : List ℕ) → IsNotFirst 47 cs → IsNotFirst 42 cs → IsNextLexeme (47 ∷ cs) (Word (kind_of kinds.Slash)) (47 ∷ []) cs
next_solidus cs no_line no_block = record {
  text_is = refl;
  is = sign_is (47 ∷ []) kinds.Slash refl;
  longest = bounded Solidus 47 cs 0 class-Solidus (after_alone cs no_line no_block);
}

pub next_triple : (c d f : ℕ) (cs : List ℕ) (kind : Kind) → class_of c ≡ Other
    → sign_of (c ∷ d ∷ f ∷ []) ≡ Some kind → IsNextLexeme (c ∷ d ∷ f ∷ cs) (Word (kind_of kind)) (c ∷ d ∷ f ∷ []) cs
next_triple c d f cs kind class found = record {
  text_is = refl;
  is = sign_is (c ∷ d ∷ f ∷ []) kind found;
  longest = bounded Other c (d ∷ f ∷ cs) 2 class (λ lexeme tail more e front. front.1.1.1);
}

-- a sign that goes on with no two characters
double : (c : ℕ) (cs : List ℕ) → IsNoTriple c cs → (lexeme : Lexeme) (tail more : List ℕ) → cs ≡ tail ++ more
    → Front Other c tail lexeme → length tail ≤ 1
double c cs short lexeme [] more e front = omega arith
double c cs short lexeme (d ∷ []) more e front = omega arith
double c cs short lexeme (d ∷ f ∷ []) more e front =
    let none : sign_of (c ∷ d ∷ f ∷ []) ≡ None = subst (IsNoTriple c) e short in
    let some = front.1.0 in
    absurd cc
double c cs short lexeme (d ∷ f ∷ g ∷ tail) more e front = let most = front.1.1.1 in absurd (omega arith)

pub next_double : (c d : ℕ) (cs : List ℕ) (kind : Kind) → class_of c ≡ Other → sign_of (c ∷ d ∷ []) ≡ Some kind
    → IsNoTriple c (d ∷ cs) → IsNextLexeme (c ∷ d ∷ cs) (Word (kind_of kind)) (c ∷ d ∷ []) cs
next_double c d cs kind class found short = record {
  text_is = refl;
  is = sign_is (c ∷ d ∷ []) kind found;
  longest = bounded Other c (d ∷ cs) 1 class (double c (d ∷ cs) short);
}

-- and one that goes on with none
single : (c : ℕ) (cs : List ℕ) → IsNoTriple c cs → IsNoDouble c cs → (lexeme : Lexeme) (tail more : List ℕ) → cs ≡ tail ++ more
    → Front Other c tail lexeme → tail ≡ []
single c cs short alone lexeme [] more e front = refl
single c cs short alone lexeme (d ∷ []) more e front =
    let none : sign_of (c ∷ d ∷ []) ≡ None = subst (IsNoDouble c) e alone in
    let some = front.1.0 in
    absurd cc
single c cs short alone lexeme (d ∷ f ∷ tail) more e front =
    let most = double c cs short lexeme (d ∷ f ∷ tail) more e front in
    absurd (omega arith)

pub next_single : (c : ℕ) (cs : List ℕ) (kind : Kind) → class_of c ≡ Other → sign_of (c ∷ []) ≡ Some kind
    → IsNoTriple c cs → IsNoDouble c cs → IsNextLexeme (c ∷ cs) (Word (kind_of kind)) (c ∷ []) cs
next_single c cs kind class found short alone = record {
  text_is = refl;
  is = sign_is (c ∷ []) kind found;
  longest = bounded Other c cs 0 class
      (λ lexeme tail more e front. let n = ap length (single c cs short alone lexeme tail more e front) in omega arith);
}

pub none_next : (c : ℕ) (cs : List ℕ) → class_of c ≡ Other → sign_of (c ∷ []) ≡ None → IsNoTriple c cs
    → IsNoDouble c cs → IsRefusedFor (c ∷ cs) NoToken
none_next c cs class absent short alone = (
  λ e. cc,
  λ lexeme front rest h e.
      let (tail, (here, (others, shape))) = opened Other c cs class lexeme front rest h e in
      let empty = single c cs short alone lexeme tail rest others shape in
      let some : sign_of (c ∷ []) ≡ Some shape.0 = ap (λ t. sign_of (c ∷ t)) (sym empty) ∙ shape.1.0 in
      cc,
)

-- one text after a `/` is one lexeme
one_after : (a b : List ℕ) (l m : Lexeme) → AfterSolidus a l → AfterSolidus b m → a ≡ b → l ≡ m
one_after a b l m Alone Alone e = refl
one_after a b l m Alone (Line y k) e = absurd cc
one_after a b l m Alone (Block y k) e = absurd cc
one_after a b l m Alone (Unclosed y k) e = absurd cc
one_after a b l m (Line x h) Alone e = absurd cc
one_after a b l m (Line x h) (Line y k) e = refl
one_after a b l m (Line x h) (Block y k) e = absurd (parted _ _ e)
one_after a b l m (Line x h) (Unclosed y k) e = absurd (parted _ _ e)
one_after a b l m (Block x h) Alone e = absurd cc
one_after a b l m (Block x h) (Line y k) e = absurd (parted _ _ (sym e))
one_after a b l m (Block x h) (Block y k) e = refl
one_after a b l m (Block x h) (Unclosed y k) e = let same : x ≡ y = cc in absurd (k h.inner [] (sym same ∙ h.ends))
one_after a b l m (Unclosed x h) Alone e = absurd cc
one_after a b l m (Unclosed x h) (Line y k) e = absurd (parted _ _ (sym e))
one_after a b l m (Unclosed x h) (Block y k) e = let same : x ≡ y = cc in absurd (h k.inner [] (same ∙ k.ends))
one_after a b l m (Unclosed x h) (Unclosed y k) e = refl

one_front : (k : Class) (c : ℕ) (cs : List ℕ) (l m : Lexeme) → Front k c cs l → Front k c cs m → l ≡ m
one_front White c cs l m h k = h.0 ∙ sym k.0
one_front Digit c cs l m h k = h.0 ∙ sym k.0
one_front Letter c cs l m h k = h.0 ∙ sym k.0
one_front Solidus c cs l m h k = one_after cs cs l m h k refl
one_front Other c cs l m h k =
    let both : Some h.0 ≡ Some k.0 = sym h.1.0 ∙ k.1.0 in
    let same : h.0 ≡ k.0 = cc in
    h.1.1.0 ∙ (ap (λ k. Word (kind_of k)) same ∙ sym k.1.1.0)

-- one list of characters is one lexeme
pub one_lexeme : (cs : List ℕ) (l m : Lexeme) → IsLexeme l cs → IsLexeme m cs → l ≡ m
one_lexeme [] l m h k = absurd (nonempty l [] h refl)
one_lexeme (c ∷ cs) l m h k =
    one_front (class_of c) c cs l m (shape l (c ∷ cs) c cs h refl) (shape m (c ∷ cs) c cs k refl)

-- a text has one next lexeme
pub one_next : (text front rest other more : List ℕ) (l m : Lexeme) → IsNextLexeme text l front rest
    → IsNextLexeme text m other more → (l ≡ m) × ((front ≡ other) × (rest ≡ more))
one_next text front rest other more l m h k =
    let e : front ++ rest ≡ other ++ more = sym h.text_is ∙ k.text_is in
    let below : length other ≤ length front = h.longest m other more k.is k.text_is in
    let above : length front ≤ length other = k.longest l front rest h.is h.text_is in
    let same = same_front front rest other more e (omega arith) in
    (one_lexeme front l m h.is (subst (IsLexeme m) (sym same.0) k.is), same)
