-- Private: lexemes, and how a text goes on, by names for each case.
-- Source: our own.
use Rattle.std.specs.Prelude.{ℕ, ◌+◌, List, ◌∷◌, None, Some}
use Rattle.lexer.specs.Cut.{Cuts, Next, IsNextLexeme, size, terminal_at}
use Rattle.lexer.specs.Lexeme.{Lexeme, Piece, Refused}
use Rattle.lexer.specs.Terminal.{Terminal}
use Rattle.lexer.specs.TokenKind.{TokenKind}
use Rattle.lexer.specs.declared.fault.LexRefusalKind.TheVariants.{LiteralTooLarge, UnclosedComment}

-- a token, what gives none, an integer above the greatest, and a comment without an end
pattern abbrev pub Word : TokenKind → Lexeme
Word kind = Piece (Some kind)

pattern abbrev pub Gap : Lexeme
Gap = Piece None

pattern abbrev pub LargeLiteral : Lexeme
LargeLiteral = Refused LiteralTooLarge

pattern abbrev pub OpenComment : Lexeme
OpenComment = Refused UnclosedComment

-- the next lexeme is a token, and it gives none
pattern abbrev pub Token : (start : ℕ) (text : List ℕ) (kind : TokenKind) (front left : List ℕ) (tokens : List Terminal) (end : ℕ) (rest : List ℕ)
    → IsNextLexeme text (Word kind) front left → Cuts (start + size front) left tokens end rest
    → Cuts start text (terminal_at start kind front ∷ tokens) end rest
Token start text kind front left tokens end rest next cuts = Next start text (Some kind) front left tokens end rest next cuts

pattern abbrev pub Between : (start : ℕ) (text front left : List ℕ) (tokens : List Terminal) (end : ℕ) (rest : List ℕ)
    → IsNextLexeme text Gap front left → Cuts (start + size front) left tokens end rest → Cuts start text tokens end rest
Between start text front left tokens end rest next cuts = Next start text None front left tokens end rest next cuts
