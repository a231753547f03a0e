-- What the private functions of the scanner read, as functions on characters. No public contract cites this file.
-- Source: our own.
use Rattle.lexer.specs.Patterns.{Word, Gap}
use Rattle.std.specs.Prelude.{◌≡◌, ℕ, ◌==◌, ◌&&◌, ◌||◌, Bool, not, cond, List, [], ◌∷◌, ◌++◌, Option, None, Some, get_or, false, length, nat_eq, nat_lt}
use Rattle.std.specs.List.{list_any}
use Rattle.std.specs.Char.{is_ascii_digit}
use Rattle.lexer.specs.Words.{is_white_space, may_begin}
use Rattle.unicode_ident.specs.Ident.{is_xid_continue}
use Rattle.lexer.specs.KindOf.{kind_of}
use Rattle.lexer.specs.KindRows.{sign_of, sign_rows}
use Rattle.lexer.specs.Lexeme.{Lexeme}
use Rattle.lexer.specs.Cut.{IsNextLexeme, IsRefusedFor}
use Rattle.common.specs.declared.refusal.RefusalAt.{RefusalAt}
use Rattle.lexer.specs.declared.fault.LexRefusalKind.{LexRefusalKind}
use Rattle.lexer.specs.declared.token.Kind.{Kind}
use Rattle.lexer.specs.declared.pieces.Class.{Class}
use Rattle.lexer.specs.declared.pieces.Class.TheVariants.{Blank, Digit, NamePart, InLine}

-- whether the character is of the class
abbrev pub holds : Class → ℕ → Bool
holds Blank c = is_white_space c
holds Digit c = is_ascii_digit c
holds NamePart c = is_xid_continue c
holds InLine c = not (c == 10)

-- the text is empty, or does not begin with an ASCII character of the class
abbrev pub IsStopped : Class → List ℕ → Type 0
IsStopped class [] = Unit {0}
IsStopped class (byte ∷ bytes) = (nat_lt byte 128 && holds class byte) ≡ false

-- the character begins no lexeme but a sign
abbrev pub begins_sign : ℕ → Bool
begins_sign c = not (is_white_space c || is_ascii_digit c || may_begin c || c == 47)

-- whether a word has `count` characters and begins with the character
abbrev pub has_front : ℕ → ℕ → List ℕ → Bool
has_front count c word = nat_eq (length word) count && nat_eq (get_or word 0 0) c

-- the character begins a sign of this many characters
abbrev pub begins_sign_of : ℕ → ℕ → Bool
begins_sign_of count c = list_any (λ row. has_front count c row.0) sign_rows

-- the list is empty, or its first element fails the test
abbrev pub Stops : (ℕ → Bool) → List ℕ → Type 0
Stops p [] = Unit {0}
Stops p (c ∷ cs) = p c ≡ false

-- what follows the longest front that passes
abbrev pub after_run : (ℕ → Bool) → List ℕ → List ℕ
after_run p [] = []
after_run p (c ∷ cs) = cond (p c) (after_run p cs) (c ∷ cs)

-- what follows the first `*/`, where the character before was a `*` or was not
abbrev pub after_close : Bool → List ℕ → Option (List ℕ)
after_close starred [] = None
after_close starred (c ∷ cs) = cond (starred && c == 47) (Some cs) (after_close (c == 42) cs)

-- the second list ends the first
abbrev pub IsTail : List ℕ → List ℕ → Type 0
IsTail cs rest = (front : List ℕ) × (cs ≡ front ++ rest)

-- a token's kind, or none for a gap
abbrev pub lexeme_of : Option Kind → Lexeme
lexeme_of None = Gap
lexeme_of (Some kind) = Word (kind_of kind)

-- the text begins with the lexeme of this kind, and `rest` follows
abbrev pub Reads : List ℕ → Option Kind → List ℕ → Type 0
Reads text kind rest = (front : List ℕ) × IsNextLexeme text (lexeme_of kind) front rest

-- the character and the first one of the list are no sign
abbrev pub IsNoDouble : ℕ → List ℕ → Type 0
IsNoDouble c [] = Unit {0}
IsNoDouble c (d ∷ cs) = sign_of (c ∷ d ∷ []) ≡ None

-- the character and the first one of the list are a sign of this kind, and `rest` follows
abbrev pub IsDouble : ℕ → List ℕ → Kind → List ℕ → Type 0
IsDouble c cs kind rest = (d : ℕ) × (cs ≡ d ∷ rest) × (sign_of (c ∷ d ∷ []) ≡ Some kind)

-- the same of three characters
abbrev pub IsNoTriple : ℕ → List ℕ → Type 0
IsNoTriple c [] = Unit {0}
IsNoTriple c (d ∷ []) = Unit {0}
IsNoTriple c (d ∷ (e ∷ cs)) = sign_of (c ∷ d ∷ e ∷ []) ≡ None

abbrev pub IsTriple : ℕ → List ℕ → Kind → List ℕ → Type 0
IsTriple c cs kind rest = (d : ℕ) × (e : ℕ) × (cs ≡ d ∷ e ∷ rest) × (sign_of (c ∷ d ∷ e ∷ []) ≡ Some kind)

-- the refusal is how the text goes on at the byte `start`
abbrev pub IsStuck : ℕ → List ℕ → RefusalAt LexRefusalKind → Type 0
IsStuck start text refusal = (refusal.at ≡ start) × IsRefusedFor text refusal.kind
