-- The number and the words of what is wrong with a text that has no hierarchy.
-- Source: our own.
use Rattle.std.specs.Prelude.{codes}
use Rattle.common.specs.Message.{MessageContents, message}
use Rattle.principals.specs.declared.fault.HierarchyRefusalKind.{HierarchyRefusalKind}
use Rattle.principals.specs.declared.fault.HierarchyRefusalKind.TheVariants.{TooLong, Syntax, DeclaredTwice, UnknownPrincipal, TooManyPrincipals}

abbrev pub hierarchy_message : HierarchyRefusalKind → MessageContents
hierarchy_message TooLong = message 701 (codes "text too long")
hierarchy_message Syntax = message 151 (codes "syntax")
hierarchy_message DeclaredTwice = message 152 (codes "declared twice")
hierarchy_message UnknownPrincipal = message 153 (codes "unknown principal")
hierarchy_message TooManyPrincipals = message 154 (codes "too many principals")
