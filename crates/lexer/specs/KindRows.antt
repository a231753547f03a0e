-- Private: the kinds of the code by the words that they stand for, as the scanner and the readers of tokens look them up.
-- Source: our own.
use Rattle.std.specs.Prelude.{ℕ, List, [], ◌∷◌, ◌++◌, map, Option, bytes_eq, codes, unwrap_or}
use Rattle.std.specs.Map.{lookup}
use Rattle.lexer.specs.KindOf.{text_of}
use Rattle.lexer.specs.TokenKind.{TokenKind, Fixed, Name, Integer, End}
use Rattle.lexer.specs.declared.token.Kind.{Kind}
use Rattle.lexer.specs.declared.token.Kind.TheVariants as kinds

-- the keywords and the signs with their kinds
abbrev row : Kind → List ℕ × Kind
row kind = (codes (text_of kind), kind)

abbrev pub keyword_rows : List (List ℕ × Kind)
keyword_rows =
    map row (kinds.Boolean ∷ kinds.Break ∷ kinds.Catch ∷ kinds.Continue ∷ kinds.Else ∷ kinds.Exception
    ∷ kinds.False ∷ kinds.Global ∷ kinds.If ∷ kinds.Input ∷ kinds.Int ∷ kinds.Output ∷ kinds.Receive
    ∷ kinds.Return ∷ kinds.Send ∷ kinds.Throw ∷ kinds.Throws ∷ kinds.True ∷ kinds.Try ∷ kinds.Void ∷ kinds.While
    ∷ [])

abbrev pub sign_rows : List (List ℕ × Kind)
sign_rows =
    map row (kinds.OpenBrace ∷ kinds.CloseBrace ∷ kinds.OpenParenthesis ∷ kinds.CloseParenthesis
    ∷ kinds.OpenBracket ∷ kinds.CloseBracket ∷ kinds.Semicolon ∷ kinds.Comma ∷ kinds.Colon ∷ kinds.Assign
    ∷ kinds.EqualTo ∷ kinds.NotEqualTo ∷ kinds.LessThan ∷ kinds.AtMost ∷ kinds.GreaterThan ∷ kinds.AtLeast
    ∷ kinds.Plus ∷ kinds.Minus ∷ kinds.Star ∷ kinds.Slash ∷ kinds.Percent ∷ kinds.Not ∷ kinds.And ∷ kinds.Or
    ∷ kinds.BitAnd ∷ kinds.BitOr ∷ kinds.BitXor ∷ kinds.ShiftLeft ∷ kinds.ShiftRight ∷ kinds.ShiftRightUnsigned
    ∷ [])

-- the kind of the keyword, and of the sign, that the characters are, if they are one
abbrev pub keyword_of : List ℕ → Option Kind
keyword_of cs = lookup (bytes_eq cs) keyword_rows

abbrev pub sign_of : List ℕ → Option Kind
sign_of cs = lookup (bytes_eq cs) sign_rows

-- the kind in the code
abbrev pub code_of : TokenKind → Kind
code_of (Fixed cs fixed) = unwrap_or (lookup (bytes_eq cs) (keyword_rows ++ sign_rows)) kinds.End
code_of Name = kinds.Name
code_of (Integer value) = kinds.Integer value
code_of End = kinds.End
