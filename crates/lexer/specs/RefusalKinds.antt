-- The number and the words of what is wrong with a text that has no tokens.
-- Source: our own.
use Rattle.std.specs.Prelude.{codes}
use Rattle.common.specs.Message.{MessageContents, message}
use Rattle.lexer.specs.declared.fault.LexRefusalKind.{LexRefusalKind}
use Rattle.lexer.specs.declared.fault.LexRefusalKind.TheVariants.{NoToken, LiteralTooLarge, UnclosedComment}

abbrev pub lex_message : LexRefusalKind → MessageContents
lex_message NoToken = message 101 (codes "no token")
lex_message LiteralTooLarge = message 102 (codes "literal too large")
lex_message UnclosedComment = message 103 (codes "open comment")
