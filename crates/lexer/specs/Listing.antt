-- What holds of the tokens of a text, one by one and in a row.
-- Source: our own.
use Rattle.std.specs.Prelude.{◌≡◌, ℕ, ◌≤◌, List, [], ◌∷◌, slice_range, IsTrue}
use Rattle.std.specs.Str.{IsCharBoundary}
use Rattle.std.specs.Str.Parse.{digits_value}
use Rattle.lexer.specs.Lexeme.{IsNumeral}
use Rattle.lexer.specs.Terminal.{Terminal}
use Rattle.lexer.specs.Words.{is_name_text}
use Rattle.common.specs.declared.refusal.RefusalAt.{RefusalAt}
use Rattle.lexer.specs.declared.fault.LexRefusalKind.{LexRefusalKind}
use Rattle.lexer.specs.TokenKind.{TokenKind, Fixed, Name, Integer, End}
use Rattle.common.specs.declared.limits.TheConstants.{MAX_INTEGER}

-- the terminals stand one after another, from the byte `start` to the byte `end`
abbrev pub IsInOrder : ℕ → List Terminal → ℕ → Type 0
IsInOrder start [] end = start ≤ end
IsInOrder start (t ∷ ts) end = (start ≤ t.start) × (t.start ≤ t.end) × IsInOrder t.end ts end

-- the terminal's text is what stands in the source at its place
abbrev pub IsSliceOf : List ℕ → Terminal → Type 0
IsSliceOf source t = t.text ≡ slice_range source t.start t.end

-- the bytes spell a terminal of this kind
abbrev pub SpellsToken : TokenKind → List ℕ → Type 0
SpellsToken (Fixed cs fixed) text = text ≡ cs
SpellsToken Name text = IsTrue (is_name_text text)
SpellsToken (Integer value) text = IsNumeral text × (digits_value 10 text ≡ value) × (value ≤ MAX_INTEGER)
SpellsToken End text = text ≡ []

-- the terminal's text spells its kind
abbrev pub IsSpelled : Terminal → Type 0
IsSpelled t = SpellsToken t.kind t.text

-- the terminal stands where a character of the source begins, or at its end
abbrev pub IsAtCharacter : List ℕ → Terminal → Type 0
IsAtCharacter source t = IsCharBoundary source t.start

-- the refusal stands where a character of the source begins
abbrev pub IsRefusedAtCharacter : List ℕ → RefusalAt LexRefusalKind → Type 0
IsRefusedAtCharacter source refusal = IsCharBoundary source refusal.at
