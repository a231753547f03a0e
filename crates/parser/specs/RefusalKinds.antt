-- The number and the words of what is wrong with a token.
-- Source: our own.
use Rattle.std.specs.Prelude.{codes}
use Rattle.common.specs.Message.{MessageContents, message}
use Rattle.parser.specs.declared.fault.ParseRefusalKind.{ParseRefusalKind}
use Rattle.parser.specs.declared.fault.ParseRefusalKind.TheVariants.{UnexpectedToken, TooDeep}

abbrev pub parse_message : ParseRefusalKind → MessageContents
parse_message UnexpectedToken = message 201 (codes "unexpected token")
parse_message TooDeep = message 202 (codes "nested too deep")
