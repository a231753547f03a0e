-- What a token is.
-- Source: our own.
use Rattle.std.specs.Prelude.{ℕ, List, IsTrue, codes}
use Rattle.lexer.specs.Words.{is_fixed}

-- a keyword or a sign, which is its text, a name, an integer with its value, or the end of the text
pub data TokenKind : Type 0 where
  Fixed : (cs : List ℕ) → IsTrue (is_fixed cs) → TokenKind
  Name : TokenKind
  Integer : (value : ℕ) → TokenKind
  End : TokenKind

-- the word by which a grammar speaks of a kind: a keyword or a sign itself; for the others one that no token has as its text
abbrev pub word_of : TokenKind → List ℕ
word_of (Fixed cs fixed) = cs
word_of Name = codes "a name"
word_of (Integer value) = codes "an integer"
word_of End = codes "the end"
