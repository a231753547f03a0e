-- Keywords and signs: by their kinds in the code, and as fixed words.
use Rattle.lexer.specs.Patterns.{Word}
use mathlib.Core.Bool.{Bool-set}
use Rattle.std.proofs.Common.{◌≡◌, ◌⊎◌, ℕ, ◌||◌, Bool, true, false, cond, List, [], ◌∷◌, ◌++◌, map, Option, Some, None, is_some, refl, sym, ap, subst, ◌∙◌, inl, inr}
use Rattle.std.specs.Prelude.{IsTrue, bytes_eq, codes, unwrap_or}
use Rattle.std.specs.Map.{lookup}
use Rattle.std.specs.List.{list_all, list_any}
use Rattle.std.proofs.lemmas.Bool.{cases_Bool, and_parts, cond-true, cond-false, or_cases}
use Rattle.std.proofs.lemmas.Slice.Eq.{bytes_eq-Decides}
use Rattle.lexer.specs.KindOf.{kind_of, text_of}
use Rattle.lexer.specs.KindRows.{code_of, keyword_rows, sign_rows, keyword_of, sign_of}
use Rattle.lexer.specs.Lexeme.{IsLexeme, FixedWord}
use Rattle.lexer.specs.TokenKind.{TokenKind, Fixed, Name, Integer, End, word_of}
use Rattle.lexer.specs.Words.{keywords, signs, is_fixed}
use Rattle.lexer.specs.declared.token.Kind.{Kind}
use Rattle.lexer.specs.declared.token.Kind.TheVariants as kinds

-- a fixed word has one kind
pub one_fixed : (cs : List ℕ) (fixed other : IsTrue (is_fixed cs)) → Fixed cs fixed ≡ Fixed cs other
one_fixed cs fixed other = ap (λ is. Fixed cs is) (Bool-set (is_fixed cs) true fixed other)

-- the kind is that of the fixed word
pub record IsKindOf (cs : List ℕ) (kind : TokenKind) : Type 0 where
  pub fixed : IsTrue (is_fixed cs)
  pub is : kind ≡ Fixed cs fixed

is_word : TokenKind → List ℕ → Bool
is_word (Fixed word fixed) cs = bytes_eq word cs
is_word _ cs = false

word_kind : (kind : TokenKind) (cs : List ℕ) → is_word kind cs ≡ true → IsKindOf cs kind
unfolding is_word
word_kind (Fixed word fixed) cs e =
    subst (λ t. IsKindOf t (Fixed word fixed)) ((bytes_eq-Decides word cs).0 e) (record { fixed = fixed; is = refl })
word_kind Name cs e = absurd cc
word_kind (Integer value) cs e = absurd cc
word_kind End cs e = absurd cc

row_kind : (rows : List (List ℕ × Kind)) → list_all (λ row. is_word (kind_of row.1) row.0) rows ≡ true → (cs : List ℕ) (kind : Kind)
    → lookup (bytes_eq cs) rows ≡ Some kind → IsKindOf cs (kind_of kind)
row_kind [] all cs kind found = absurd cc
row_kind (row ∷ rows) all cs kind found =
    elim (cases_Bool (bytes_eq cs row.0)) [
      | inl same ↦
          let both : Some row.1 ≡ Some kind = sym (cond-true (bytes_eq cs row.0) (Some row.1) (lookup (bytes_eq cs) rows) same) ∙ found in
          let k : row.1 ≡ kind = cc in
          subst (λ x. IsKindOf cs (kind_of x)) k
          (subst (λ t. IsKindOf t (kind_of row.1)) (sym ((bytes_eq-Decides cs row.0).0 same)) (word_kind (kind_of row.1) row.0 (and_parts _ _ all).0))
      | inr other ↦
          row_kind rows (and_parts _ _ all).1 cs kind (sym (cond-false (bytes_eq cs row.0) (Some row.1) (lookup (bytes_eq cs) rows) other) ∙ found)
    ]

pub keyword_kind : (cs : List ℕ) (kind : Kind) → keyword_of cs ≡ Some kind → IsKindOf cs (kind_of kind)
unfolding is_word
keyword_kind cs kind found = row_kind keyword_rows refl cs kind found

pub sign_kind : (cs : List ℕ) (kind : Kind) → sign_of cs ≡ Some kind → IsKindOf cs (kind_of kind)
unfolding is_word
sign_kind cs kind found = row_kind sign_rows refl cs kind found

fixed_is : (cs : List ℕ) (kind : TokenKind) → IsKindOf cs kind → IsLexeme (Word kind) cs
fixed_is cs kind h = subst (λ k. IsLexeme (Word k) cs) (sym h.is) (FixedWord cs h.fixed)

pub keyword_is : (cs : List ℕ) (kind : Kind) → keyword_of cs ≡ Some kind → IsLexeme (Word (kind_of kind)) cs
keyword_is cs kind found = fixed_is cs (kind_of kind) (keyword_kind cs kind found)

pub sign_is : (cs : List ℕ) (kind : Kind) → sign_of cs ≡ Some kind → IsLexeme (Word (kind_of kind)) cs
sign_is cs kind found = fixed_is cs (kind_of kind) (sign_kind cs kind found)

-- a text is among the words of a table where it is found there
pub among : {K : Type 0} (cs : List ℕ) (rows : List (List ℕ × K)) → list_any (bytes_eq cs) (map (λ row. row.0) rows) ≡ is_some (lookup (bytes_eq cs) rows)
among cs [] = refl
among {K} cs (row ∷ rows) = by (bytes_eq cs row.0) (among cs rows)
  where
    by : (b : Bool) → list_any (bytes_eq cs) (map (λ row. row.0) rows) ≡ is_some (lookup (bytes_eq cs) rows)
        → (b || list_any (bytes_eq cs) (map (λ row. row.0) rows)) ≡ is_some (cond b (Some row.1) (lookup (bytes_eq cs) rows))
    by true others = refl
    by false others = others

pub is_keyword : (cs : List ℕ) → list_any (bytes_eq cs) keywords ≡ is_some (keyword_of cs)
is_keyword cs = among cs keyword_rows

any_append : (p : List ℕ → Bool) (xs ys : List (List ℕ)) → list_any p (xs ++ ys) ≡ (list_any p xs || list_any p ys)
any_append p [] ys = refl
any_append p (x ∷ xs) ys = by (p x) (any_append p xs ys)
  where
    by : (b : Bool) → list_any p (xs ++ ys) ≡ (list_any p xs || list_any p ys) → (b || list_any p (xs ++ ys)) ≡ ((b || list_any p xs) || list_any p ys)
    by true others = refl
    by false others = others

the_kind : (found : Option Kind) → is_some found ≡ true → (kind : Kind) × (found ≡ Some kind)
the_kind None e = absurd cc
the_kind (Some kind) e = (kind, refl)

-- the kind in the code of a fixed word
pub record Coded (cs : List ℕ) (fixed : IsTrue (is_fixed cs)) : Type 0 where
  pub kind : Kind
  pub is : kind_of kind ≡ Fixed cs fixed
  pub found : (keyword_of cs ≡ Some kind) ⊎ (sign_of cs ≡ Some kind)

pub coded : (cs : List ℕ) (fixed : IsTrue (is_fixed cs)) → Coded cs fixed
coded cs fixed =
    elim (or_cases _ _ (sym (any_append (bytes_eq cs) keywords signs) ∙ fixed)) [
      | inl keyword ↦
          let one = the_kind (keyword_of cs) (sym (among cs keyword_rows) ∙ keyword) in
          let h = keyword_kind cs one.0 one.1 in
          record { kind = one.0; is = h.is ∙ one_fixed cs h.fixed fixed; found = inl one.1 }
      | inr sign ↦
          let one = the_kind (sign_of cs) (sym (among cs sign_rows) ∙ sign) in
          let h = sign_kind cs one.0 one.1 in
          record { kind = one.0; is = h.is ∙ one_fixed cs h.fixed fixed; found = inr one.1 }
    ]

-- each kind of the code is one kind of a token
pub code_kind : (kind : Kind) → code_of (kind_of kind) ≡ kind
code_kind kinds.End = refl
code_kind _ = refl

pub kind_code : (kind : TokenKind) → kind_of (code_of kind) ≡ kind
kind_code (Fixed cs fixed) =
    let one = coded cs fixed in
    ap (λ k. kind_of (code_of k)) (sym one.is) ∙ ap kind_of (code_kind one.kind) ∙ one.is
kind_code Name = refl
kind_code (Integer value) = refl
kind_code End = refl

pub coded_kind : (kind : TokenKind) (other : Kind) → code_of kind ≡ other → kind ≡ kind_of other
coded_kind kind other e = sym (kind_code kind) ∙ ap kind_of e

pub text_word : (kind : Kind) → word_of (kind_of kind) ≡ codes (text_of kind)
text_word kinds.End = refl
text_word _ = refl

-- the kind in the code that has a word
abbrev by_word : List ℕ → Kind
by_word word = unwrap_or (lookup (bytes_eq word) ((codes "a name", kinds.Name) ∷ (codes "an integer", kinds.Integer 0) ∷ (keyword_rows ++ sign_rows))) kinds.End

-- the kind, where integers of all values are the same
abbrev pub shape : Kind → Kind
shape (kinds.Integer value) = kinds.Integer 0
shape kind = kind

word_code : (kind : Kind) → by_word (word_of (kind_of kind)) ≡ shape kind
word_code kinds.End = refl
word_code _ = refl

pub shape_word : (kind : Kind) → word_of (kind_of (shape kind)) ≡ word_of (kind_of kind)
shape_word kinds.End = refl
shape_word _ = refl

shape_plain : (kind other : Kind) → shape kind ≡ other → ((value : ℕ) → other ≡ kinds.Integer value → ⊥) → kind ≡ other
shape_plain (kinds.Integer value) other e plain = absurd (plain 0 (sym e))
shape_plain kinds.End other e plain = e
shape_plain _ other e plain = e

-- kinds with one word are one, unless they are integers
pub one_word : (kind : TokenKind) (other : Kind) → ((value : ℕ) → other ≡ kinds.Integer value → ⊥) → word_of kind ≡ word_of (kind_of other) → code_of kind ≡ other
one_word kind other plain e =
    shape_plain (code_of kind) other
    (sym (word_code (code_of kind)) ∙ ap by_word (ap word_of (kind_code kind) ∙ e) ∙ word_code other ∙ unshaped other plain) plain
  where
    unshaped : (other : Kind) → ((value : ℕ) → other ≡ kinds.Integer value → ⊥) → shape other ≡ other
    unshaped (kinds.Integer value) plain = absurd (plain value refl)
    unshaped kinds.End plain = refl
    unshaped _ plain = refl
