-- The number and the words of what is wrong with bytes that spell no module.
-- Source: our own.
use Rattle.std.specs.Prelude.{codes}
use Rattle.common.specs.Message.{MessageContents, message}
use Rattle.modules.specs.declared.fault.FormatRefusalKind.{FormatRefusalKind}
use Rattle.modules.specs.declared.fault.FormatRefusalKind.TheVariants.{Magic, Version, Short, BadValue, NotCanonical, Trailing}

abbrev pub format_message : FormatRefusalKind → MessageContents
format_message Magic = message 801 (codes "magic")
format_message Version = message 802 (codes "version")
format_message Short = message 803 (codes "short")
format_message BadValue = message 804 (codes "bad value")
format_message NotCanonical = message 805 (codes "not canonical")
format_message Trailing = message 806 (codes "trailing bytes")
