-- What each kind that the code gives a token stands for.
-- Source: our own.
use Prim.Native.String.{String}
use Rattle.std.specs.Prelude.{codes}
use Rattle.std.proofs.Common.{refl}
use Rattle.lexer.specs.TokenKind.{TokenKind, Fixed, Name, Integer, End}
use Rattle.lexer.specs.declared.token.Kind.{Kind}
use Rattle.lexer.specs.declared.token.Kind.TheVariants as kinds

-- the word by which a grammar speaks of a kind: the text of a keyword or a sign, and for the others that of `word_of`
abbrev pub text_of : Kind → String
text_of kinds.Boolean = "boolean"
text_of kinds.Break = "break"
text_of kinds.Catch = "catch"
text_of kinds.Continue = "continue"
text_of kinds.Else = "else"
text_of kinds.Exception = "exception"
text_of kinds.False = "false"
text_of kinds.Global = "global"
text_of kinds.If = "if"
text_of kinds.Input = "input"
text_of kinds.Int = "int"
text_of kinds.Output = "output"
text_of kinds.Receive = "receive"
text_of kinds.Return = "return"
text_of kinds.Send = "send"
text_of kinds.Throw = "throw"
text_of kinds.Throws = "throws"
text_of kinds.True = "true"
text_of kinds.Try = "try"
text_of kinds.Void = "void"
text_of kinds.While = "while"
text_of kinds.OpenBrace = "{"
text_of kinds.CloseBrace = "}"
text_of kinds.OpenParenthesis = "("
text_of kinds.CloseParenthesis = ")"
text_of kinds.OpenBracket = "["
text_of kinds.CloseBracket = "]"
text_of kinds.Semicolon = ";"
text_of kinds.Comma = ","
text_of kinds.Colon = ":"
text_of kinds.Assign = "="
text_of kinds.EqualTo = "=="
text_of kinds.NotEqualTo = "!="
text_of kinds.LessThan = "<"
text_of kinds.AtMost = "<="
text_of kinds.GreaterThan = ">"
text_of kinds.AtLeast = ">="
text_of kinds.Plus = "+"
text_of kinds.Minus = "-"
text_of kinds.Star = "*"
text_of kinds.Slash = "/"
text_of kinds.Percent = "%"
text_of kinds.Not = "!"
text_of kinds.And = "&&"
text_of kinds.Or = "||"
text_of kinds.BitAnd = "&"
text_of kinds.BitOr = "|"
text_of kinds.BitXor = "^"
text_of kinds.ShiftLeft = "<<"
text_of kinds.ShiftRight = ">>"
text_of kinds.ShiftRightUnsigned = ">>>"
text_of kinds.Name = "a name"
text_of (kinds.Integer value) = "an integer"
text_of kinds.End = "the end"

-- a kind that is not named here is that of a keyword or a sign, or this is refused
abbrev pub kind_of : Kind → TokenKind
kind_of kinds.Name = Name
kind_of (kinds.Integer value) = Integer value
kind_of kinds.End = End
kind_of kind = Fixed (codes (text_of kind)) refl
