-- The numbers and the words by which the kinds of refusals are reported: those of the phases are the numbers and the words of what
-- each phase refuses.
-- Source: our own.
use Rattle.std.specs.Prelude.{codes}
use Rattle.common.specs.Message.{MessageContents, message}
use Rattle.lexer.specs.RefusalKinds.{lex_message}
use Rattle.principals.specs.RefusalKinds.{hierarchy_message}
use Rattle.principals.specs.declared.fault.HierarchyRefusalKind.TheVariants.{TooLong}
use Rattle.parser.specs.RefusalKinds.{parse_message}
use Rattle.resolved.specs.RefusalKinds.{exit_message}
use Rattle.types.specs.RefusalKinds.{name_message}
use Rattle.acceptance.specs.declared.kind.RefusalKind.{RefusalKind}
use Rattle.acceptance.specs.declared.kind.RefusalKind.TheVariants as kind

abbrev pub refusal_message : RefusalKind → MessageContents
refusal_message kind.TextTooLong = hierarchy_message TooLong
refusal_message kind.NotUtf8 = message 100 (codes "not UTF-8")
refusal_message (kind.Hierarchy kind) = hierarchy_message kind
refusal_message (kind.Lex kind) = lex_message kind
refusal_message (kind.Parse kind) = parse_message kind
refusal_message (kind.Name kind) = name_message kind
refusal_message (kind.End kind) = exit_message kind
refusal_message kind.FlowNotAllowed = message 601 (codes "flow not allowed")
