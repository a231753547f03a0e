-- What a lexeme is, by the class of its first character.
use Rattle.lexer.specs.Patterns.{Word, Gap, LargeLiteral, OpenComment}
use Rattle.std.proofs.Common.{◌≡◌, ℕ, ◌≤◌, ◌==◌, ◌&&◌, ◌||◌, Bool, true, false, not, cond, List, [], ◌∷◌, Option, Some, None, length, refl, sym, ap, subst, ◌∙◌, inl, inr, arith, unwrap_or, is_some, ◌++◌, codes}
use Rattle.std.proofs.lemmas.Bool.{and_parts, both_ways, or_cases, eqb-true, le-leb, lt-leb, cond-true, cond-false}
use Rattle.std.specs.Char.{is_ascii_digit, is_ascii_lowercase}
use Rattle.std.specs.List.{list_all}
use Rattle.std.specs.Prelude.{nat_le}
use Rattle.std.specs.Str.Parse.{digits_value}
use Rattle.lexer.specs.KindOf.{kind_of}
use Rattle.lexer.specs.KindRows.{keyword_of, sign_of, keyword_rows, sign_rows}
use Rattle.lexer.specs.TokenKind.{Name, Integer}
use Rattle.lexer.specs.Words.{is_white_space, is_name, is_fixed}
use Rattle.unicode_ident.specs.Ident.{is_xid_continue}
use Rattle.lexer.specs.Lexeme.{Lexeme, IsLexeme, Blank, LineComment, BlockComment, Unended, FixedWord, Identifier, Literal, TooLarge, IsInLine, HasNoCommentEnd, IsNumeral}
use Rattle.lexer.proofs.Closed.{IsClosed, closed_by}
use Rattle.lexer.specs.declared.token.Kind.{Kind}
use Rattle.lexer.specs.declared.token.Kind.TheVariants as kinds
use Rattle.lexer.proofs.Fixed.{coded, is_keyword}
use Rattle.lexer.proofs.Letters.{Class, White, Digit, Letter, Solidus, Other, class_of, class-White, class-Digit, class-Letter, class-Solidus, class-Other, is_sign_first, lowercase_begins, lowercase_continues}
use Rattle.lexer.proofs.Tables.{found_passes}
use Rattle.common.specs.declared.limits.TheConstants.{MAX_INTEGER}

-- the kind of a word
abbrev pub word_kind : List ℕ → Kind
word_kind cs = unwrap_or (keyword_of cs) kinds.Name

-- what an integer is
abbrev pub literal_of : List ℕ → Lexeme
literal_of cs = cond (nat_le (digits_value 10 cs) MAX_INTEGER) (Word (Integer (digits_value 10 cs))) LargeLiteral

-- what follows a `/` in a lexeme
pub data AfterSolidus : List ℕ → Lexeme → Type 0 where
  Alone : AfterSolidus [] (Word (kind_of kinds.Slash))
  Line : (body : List ℕ) → IsInLine body → AfterSolidus (47 ∷ body) Gap
  Block : (body : List ℕ) → IsClosed body → AfterSolidus (42 ∷ body) Gap
  Unclosed : (body : List ℕ) → HasNoCommentEnd body → AfterSolidus (42 ∷ body) OpenComment

-- the lexeme of the characters `c ∷ cs`, where c is of this class
abbrev pub Front : Class → ℕ → List ℕ → Lexeme → Type 0
Front White c cs lexeme = (lexeme ≡ Gap) × (cs ≡ [])
Front Digit c cs lexeme = (lexeme ≡ literal_of (c ∷ cs)) × (list_all is_ascii_digit cs ≡ true)
Front Letter c cs lexeme = (lexeme ≡ Word (kind_of (word_kind (c ∷ cs)))) × (list_all is_xid_continue cs ≡ true)
Front Solidus c cs lexeme = AfterSolidus cs lexeme
Front Other c cs lexeme = (kind : Kind) × ((sign_of (c ∷ cs) ≡ Some kind) × ((lexeme ≡ Word (kind_of kind)) × (length cs ≤ 2)))

-- of a class that is known
known : (k : Class) (c : ℕ) (cs : List ℕ) (lexeme : Lexeme) → class_of c ≡ k → Front k c cs lexeme
    → Front (class_of c) c cs lexeme
known k c cs lexeme e front = subst (λ x. Front x c cs lexeme) (sym e) front

-- each keyword is lowercase letters, one or more
lowercase_word : List ℕ → Bool
lowercase_word [] = false
lowercase_word (c ∷ cs) = list_all is_ascii_lowercase (c ∷ cs)

lowercase_all : (cs : List ℕ) → list_all is_ascii_lowercase cs ≡ true → list_all is_xid_continue cs ≡ true
lowercase_all [] all = refl
lowercase_all (c ∷ cs) all =
    let (first, others) = and_parts _ _ all in
    ap (λ b. b && list_all is_xid_continue cs) (lowercase_continues c first) ∙ lowercase_all cs others

keyword_shape : (c : ℕ) (cs : List ℕ) (kind : Kind) → keyword_of (c ∷ cs) ≡ Some kind
    → Front (class_of c) c cs (Word (kind_of kind))
unfolding lowercase_word
keyword_shape c cs kind found =
    let lower = found_passes lowercase_word keyword_rows refl (c ∷ cs) kind found in
    let (first, others) = and_parts _ _ lower in
    known Letter c cs (Word (kind_of kind)) (class-Letter c (lowercase_begins c first))
    (ap (λ o. Word (kind_of (unwrap_or o kinds.Name))) (sym found), lowercase_all cs others)

name_kind : (found : Option Kind) → not (is_some found) ≡ true → kinds.Name ≡ unwrap_or found kinds.Name
name_kind None free = refl
name_kind (Some kind) free = absurd cc

name_shape : (c : ℕ) (cs : List ℕ) → is_name (c ∷ cs) ≡ true → Front (class_of c) c cs (Word Name)
name_shape c cs named =
    let (identifier, free) = and_parts _ _ named in
    let (first, others) = and_parts _ _ identifier in
    known Letter c cs (Word Name) (class-Letter c first) (ap (λ k. Word (kind_of k)) (name_kind (keyword_of (c ∷ cs)) (ap not (sym (is_keyword (c ∷ cs))) ∙ free)), others)

literal_shape : (c : ℕ) (cs : List ℕ) (lexeme : Lexeme) → IsNumeral (c ∷ cs) → lexeme ≡ literal_of (c ∷ cs)
    → Front (class_of c) c cs lexeme
literal_shape c cs lexeme numeral e =
    let (first, others) = and_parts _ _ numeral.digits in
    known Digit c cs lexeme (class-Digit c first) (e, others)

-- each sign is `/`, or one to three characters, of which the first begins no other lexeme
sign_word : List ℕ → Bool
sign_word [] = false
sign_word (c ∷ []) = is_sign_first c || c == 47
sign_word (c ∷ d ∷ []) = is_sign_first c
sign_word (c ∷ d ∷ e ∷ []) = is_sign_first c
sign_word (c ∷ d ∷ e ∷ f ∷ cs) = false

-- a sign of one character other than `/`
pub lone_sign : (c : ℕ) (kind : Kind) → sign_of (c ∷ []) ≡ Some kind → (c == 47) ≡ false → class_of c ≡ Other
unfolding sign_word
lone_sign c kind found other =
    elim (or_cases _ _ (found_passes sign_word sign_rows refl (c ∷ []) kind found)) [
      | inl first ↦ class-Other c first
      | inr solidus ↦ absurd (both_ways (c == 47) other solidus)
    ]

-- a `/` that is a sign
alone : (c : ℕ) (kind : Kind) → c ≡ 47 → sign_of (c ∷ []) ≡ Some kind → Front (class_of c) c [] (Word (kind_of kind))
alone c kind e found =
    let slash : sign_of (47 ∷ []) ≡ Some kinds.Slash = refl in
    let here : sign_of (47 ∷ []) ≡ Some kind = subst (λ x. sign_of (x ∷ []) ≡ Some kind) e found in
    let both : Some kinds.Slash ≡ Some kind = sym slash ∙ here in
    let same : kinds.Slash ≡ kind = cc in
    known Solidus c [] (Word (kind_of kind)) (subst (λ x. class_of x ≡ Solidus) (sym e) class-Solidus)
    (subst (λ k. AfterSolidus [] (Word (kind_of k))) same Alone)

sign_shape : (c : ℕ) (cs : List ℕ) (kind : Kind) → sign_of (c ∷ cs) ≡ Some kind
    → Front (class_of c) c cs (Word (kind_of kind))
unfolding sign_word
sign_shape c [] kind found =
    elim (or_cases _ _ (found_passes sign_word sign_rows refl (c ∷ []) kind found)) [
      | inl first ↦ known Other c [] (Word (kind_of kind)) (class-Other c first) (kind, (found, (refl, omega arith)))
      | inr solidus ↦ alone c kind (eqb-true c 47 solidus) found
    ]
sign_shape c (d ∷ []) kind found =
    let first = found_passes sign_word sign_rows refl (c ∷ d ∷ []) kind found in
    known Other c (d ∷ []) (Word (kind_of kind)) (class-Other c first) (kind, (found, (refl, omega arith)))
sign_shape c (d ∷ e ∷ []) kind found =
    let first = found_passes sign_word sign_rows refl (c ∷ d ∷ e ∷ []) kind found in
    known Other c (d ∷ e ∷ []) (Word (kind_of kind)) (class-Other c first) (kind, (found, (refl, omega arith)))
sign_shape c (d ∷ e ∷ f ∷ cs) kind found =
    let none : false ≡ true = found_passes sign_word sign_rows refl (c ∷ d ∷ e ∷ f ∷ cs) kind found in
    absurd cc

-- a lexeme that begins with `/`
at_solidus : (c : ℕ) (cs tail : List ℕ) (lexeme : Lexeme) → 47 ∷ tail ≡ c ∷ cs → AfterSolidus tail lexeme
    → Front (class_of c) c cs lexeme
at_solidus c cs tail lexeme e h =
    let first : 47 ≡ c = cc in
    let others : tail ≡ cs = cc in
    known Solidus c cs lexeme (subst (λ x. class_of x ≡ Solidus) first class-Solidus)
    (subst (λ t. AfterSolidus t lexeme) others h)

-- what a lexeme is
pub shape : (lexeme : Lexeme) (text : List ℕ) (c : ℕ) (cs : List ℕ) → IsLexeme lexeme text → text ≡ c ∷ cs
    → Front (class_of c) c cs lexeme
shape lexeme text c cs (Blank d white) e =
    let first : d ≡ c = cc in
    let others : [] ≡ cs = cc in
    known White c cs Gap (class-White c (subst (λ x. is_white_space x ≡ true) first white)) (refl, sym others)
shape lexeme text c cs (LineComment body line) e = at_solidus c cs (47 ∷ body) Gap e (Line body line)
shape lexeme text c cs (BlockComment body none) e = at_solidus c cs (42 ∷ (body ++ codes "*/")) Gap e (Block (body ++ codes "*/") (closed_by body none))
shape lexeme text c cs (Unended body unclosed) e = at_solidus c cs (42 ∷ body) OpenComment e (Unclosed body unclosed)
shape lexeme text c cs (FixedWord word fixed) e =
    let one = coded word fixed in
    subst (λ k. Front (class_of c) c cs (Word k)) one.is (elim one.found [
      | inl found ↦ keyword_shape c cs one.kind (subst (λ t. keyword_of t ≡ Some one.kind) e found)
      | inr found ↦ sign_shape c cs one.kind (subst (λ t. sign_of t ≡ Some one.kind) e found)
    ])
shape lexeme text c cs (Identifier word named) e = name_shape c cs (subst (λ t. is_name t ≡ true) e named)
shape lexeme text c cs (Literal digits numeral small) e =
    literal_shape c cs _ (subst IsNumeral e numeral)
    (sym (cond-true (nat_le (digits_value 10 digits) MAX_INTEGER) _ _ (le-leb _ _ small)) ∙ ap literal_of e)
shape lexeme text c cs (TooLarge digits numeral large) e =
    literal_shape c cs _ (subst IsNumeral e numeral)
    (sym (cond-false (nat_le (digits_value 10 digits) MAX_INTEGER) _ _ (lt-leb _ _ large)) ∙ ap literal_of e)

-- no lexeme is empty
pub nonempty : (lexeme : Lexeme) (text : List ℕ) → IsLexeme lexeme text → text ≡ [] → ⊥
nonempty lexeme text (Blank d white) e = cc
nonempty lexeme text (LineComment body line) e = cc
nonempty lexeme text (BlockComment body closed) e = cc
nonempty lexeme text (Unended body unclosed) e = cc
nonempty lexeme text (FixedWord word fixed) e =
    let none : false ≡ true = subst (λ t. is_fixed t ≡ true) e fixed in
    cc
nonempty lexeme text (Identifier word named) e =
    let none : false ≡ true = subst (λ t. is_name t ≡ true) e named in
    cc
nonempty lexeme text (Literal digits numeral small) e = let n = ap length e in let h = numeral.nonempty in omega arith
nonempty lexeme text (TooLarge digits numeral large) e = let n = ap length e in let h = numeral.nonempty in omega arith
