-- Lexemes: the pieces of which a text is made, as tokens, white space and comments, and two that are refused.
-- A text is the list of its characters, each by its code.
-- Source: the usual notion of a lexeme in lexical analysis; which lexemes there are is our own.
use Rattle.std.specs.Prelude.{◌≢◌, ℕ, ◌<◌, ◌≤◌, ◌==◌, not, List, [], ◌∷◌, ◌++◌, codes, length, Option, None, Some, IsTrue}
use Rattle.common.specs.declared.limits.TheConstants.{MAX_INTEGER}
use Rattle.std.specs.Char.{is_ascii_digit}
use Rattle.std.specs.List.{list_all}
use Rattle.std.specs.Str.Parse.{digits_value}
use Rattle.lexer.specs.TokenKind.{TokenKind, Fixed, Name, Integer}
use Rattle.lexer.specs.declared.fault.LexRefusalKind.{LexRefusalKind}
use Rattle.lexer.specs.declared.fault.LexRefusalKind.TheVariants.{LiteralTooLarge, UnclosedComment}
use Rattle.lexer.specs.Words.{is_white_space, is_name, is_fixed}

-- one decimal digit or more
pub record IsNumeral (cs : List ℕ) : Type 0 where
  pub nonempty : 0 < length cs
  pub digits : IsTrue (list_all is_ascii_digit cs)

-- no `*/` stands in the characters
abbrev pub HasNoCommentEnd : List ℕ → Type 0
HasNoCommentEnd cs = (before after : List ℕ) → cs ≢ before ++ (codes "*/" ++ after)

-- what a lexeme is: a token of a kind, or white space or a comment, which give none; or one that is refused
pub data Lexeme : Type 0 where
  Piece : Option TokenKind → Lexeme
  Refused : LexRefusalKind → Lexeme

-- the characters are such a lexeme
pub data IsLexeme : Lexeme → List ℕ → Type 0 where
  -- one character of white space
  Blank : (c : ℕ) → IsTrue (is_white_space c) → IsLexeme (Piece None) (c ∷ [])
  -- `//` and characters of the same line, which are no line feed
  LineComment : (cs : List ℕ) → IsTrue (list_all (λ c. not (c == 10)) cs) → IsLexeme (Piece None) (codes "//" ++ cs)
  -- `/*` and what follows up to the first `*/`
  BlockComment : (cs : List ℕ) → HasNoCommentEnd (cs ++ codes "*") → IsLexeme (Piece None) (codes "/*" ++ (cs ++ codes "*/"))
  -- `/*` and what follows, where no `*/` stands
  Unended : (cs : List ℕ) → HasNoCommentEnd cs → IsLexeme (Refused UnclosedComment) (codes "/*" ++ cs)
  -- a keyword or a sign
  FixedWord : (cs : List ℕ) (fixed : IsTrue (is_fixed cs)) → IsLexeme (Piece (Some (Fixed cs fixed))) cs
  -- an identifier that is no keyword
  Identifier : (cs : List ℕ) → IsTrue (is_name cs) → IsLexeme (Piece (Some Name)) cs
  -- decimal digits, read in decimal
  Literal : (cs : List ℕ) → IsNumeral cs → digits_value 10 cs ≤ MAX_INTEGER
      → IsLexeme (Piece (Some (Integer (digits_value 10 cs)))) cs
  -- decimal digits of a number above the greatest
  TooLarge : (cs : List ℕ) → IsNumeral cs → MAX_INTEGER < digits_value 10 cs → IsLexeme (Refused LiteralTooLarge) cs

-- ---- parts of the rules, by which proofs speak of them

-- no character is a line feed
abbrev pub IsInLine : List ℕ → Type 0
IsInLine cs = IsTrue (list_all (λ c. not (c == 10)) cs)
