-- A token as contracts see it, without references: a terminal symbol of a grammar, with its text and its place.
-- Source: the usual notion of a terminal symbol, and of an end marker after the last one.
use Rattle.std.specs.Prelude.{◌≡◌, ◌≢◌, ◌⊎◌, ◌+◌, ℕ, List, [], ◌∷◌, length, map}
use Rattle.lexer.specs.KindOf.{kind_of}
use Rattle.lexer.specs.TokenKind.{TokenKind, End}
use Rattle.lexer.specs.declared.token.Token.{Token}

-- a kind, the bytes of the text, the place of its first byte and the place past its last one
pub record Terminal : Type 0 where
  pub kind : TokenKind
  pub text : List ℕ
  pub start : ℕ
  pub end : ℕ

-- what a token is to a contract
abbrev pub terminal_of : Token → Terminal
terminal_of token =
    record { kind = kind_of token.kind; text = token.text.now; start = token.start; end = token.start + length token.text.now }

-- the tokens of a list, each as a contract sees it
abbrev pub terminals_of : List Token → List Terminal
terminals_of tokens = map terminal_of tokens

-- the last terminal is the end marker, and no earlier one is
abbrev pub IsTerminated : List Terminal → Type 0
IsTerminated [] = ⊥
IsTerminated (first ∷ rest) =
    ((first.kind ≡ End) × (rest ≡ [])) ⊎ ((first.kind ≢ End) × IsTerminated rest)
