-- The number and the words of what is wrong with a line of a world's text.
-- Source: our own.
use Rattle.std.specs.Prelude.{codes}
use Rattle.common.specs.Message.{MessageContents, message}
use Rattle.channels.specs.declared.kind.WorldRefusalKind.{WorldRefusalKind}
use Rattle.channels.specs.declared.kind.WorldRefusalKind.TheVariants.{Syntax, UnknownChannel, RepeatedChannel, NumberOutOfRange}

abbrev pub world_message : WorldRefusalKind → MessageContents
world_message Syntax = message 851 (codes "syntax")
world_message UnknownChannel = message 852 (codes "unknown channel")
world_message RepeatedChannel = message 853 (codes "repeated channel")
world_message NumberOutOfRange = message 854 (codes "number out of range")
