-- How a text is cut into tokens by longest match, and what the first refusal in it is.
-- Source: the rule of the longest match, as lexical analysis states it; the three refusals are our own.
use Rattle.std.specs.Prelude.{◌≡◌, ◌≢◌, ℕ, ◌+◌, ◌≤◌, List, [], ◌∷◌, ◌++◌, length, Option, option_map}
use Rattle.std.specs.List.{cons_option}
use Rattle.std.specs.Str.{chars, encode_utf8_all}
use Rattle.lexer.specs.Terminal.{Terminal}
use Rattle.lexer.specs.Lexeme.{Lexeme, Piece, Refused, IsLexeme}
use Rattle.lexer.specs.TokenKind.{TokenKind, End}
use Rattle.lexer.specs.declared.fault.LexRefusalKind.{LexRefusalKind}
use Rattle.lexer.specs.declared.fault.LexRefusalKind.TheVariants.{NoToken}
use Rattle.common.specs.declared.refusal.RefusalAt.{RefusalAt}

-- the text begins with the lexeme `front`, and with no longer one; `rest` follows
pub record IsNextLexeme (text : List ℕ) (lexeme : Lexeme) (front rest : List ℕ) : Type 0 where
  pub text_is : text ≡ front ++ rest
  pub is : IsLexeme lexeme front
  pub longest : (other : Lexeme) (longer more : List ℕ) → IsLexeme other longer → text ≡ longer ++ more
      → length longer ≤ length front

-- how many bytes the characters take
abbrev pub size : List ℕ → ℕ
size cs = length (encode_utf8_all cs)

-- the token with these characters that begins at the byte `start`
abbrev pub terminal_at : ℕ → TokenKind → List ℕ → Terminal
terminal_at start kind cs = record { kind = kind; text = encode_utf8_all cs; start = start; end = start + size cs }

-- `text` begins at the byte `start`; its front is cut into `tokens`; `rest` is left, and begins at the byte `end`
pub data Cuts : ℕ → List ℕ → List Terminal → ℕ → List ℕ → Type 0 where
  -- nothing is cut off
  Nothing : (start : ℕ) (text : List ℕ) → Cuts start text [] start text
  -- the next lexeme, which gives a token or none, and the cut goes on after it
  Next : (start : ℕ) (text : List ℕ) (kind : Option TokenKind) (front left : List ℕ) (tokens : List Terminal) (end : ℕ)
      (rest : List ℕ) → IsNextLexeme text (Piece kind) front left → Cuts (start + size front) left tokens end rest
      → Cuts start text (cons_option (option_map (λ kind. terminal_at start kind front) kind) tokens) end rest

-- the tokens of the whole text, with the end marker after them
pub record IsCut (text : List ℕ) (tokens : List Terminal) : Type 0 where
  pub words : List Terminal
  pub cuts : Cuts 0 (chars text) words (length text) []
  pub ended : tokens ≡ words ++ terminal_at (length text) End [] ∷ []

-- the text goes on, but with no lexeme, or it goes on with one that is refused
abbrev pub IsRefusedFor : List ℕ → LexRefusalKind → Type 0
IsRefusedFor text NoToken = (text ≢ []) × ((lexeme : Lexeme) (front rest : List ℕ) → IsLexeme lexeme front → text ≢ front ++ rest)
IsRefusedFor text kind = (front : List ℕ) × (rest : List ℕ) × IsNextLexeme text (Refused kind) front rest

-- what stands before the refusal is cut into tokens, and the refusal is what comes then
pub record IsTextRefused (text : List ℕ) (refusal : RefusalAt LexRefusalKind) : Type 0 where
  pub words : List Terminal
  pub rest : List ℕ
  pub cuts : Cuts 0 (chars text) words refusal.at rest
  pub stuck : IsRefusedFor rest refusal.kind
