-- The number and the words of what is wrong with the names, types and sizes of a program.
-- Source: our own.
use Rattle.std.specs.Prelude.{codes}
use Rattle.common.specs.Message.{MessageContents, message}
use Rattle.types.specs.declared.fault.TypeRefusalKind.{TypeRefusalKind}
use Rattle.types.specs.declared.fault.TypeRefusalKind.TheVariants.{UnknownName, DeclaredTwice, UnknownPrincipal, NoProperMain, LabelNotWritten, WrongType, WrongArgumentCount, WrongUse, ArraySize, TooManyCells}
use Rattle.principals.specs.declared.fault.HierarchyRefusalKind.TheVariants as hierarchy
use Rattle.principals.specs.RefusalKinds.{hierarchy_message}

abbrev pub name_message : TypeRefusalKind → MessageContents
name_message UnknownName = message 301 (codes "unknown name")
name_message DeclaredTwice = message 302 (codes "declared twice")
name_message UnknownPrincipal = message 303 (hierarchy_message hierarchy.UnknownPrincipal).words
name_message NoProperMain = message 304 (codes "no proper main")
name_message LabelNotWritten = message 305 (codes "label not written")
name_message WrongType = message 401 (codes "wrong type")
name_message WrongArgumentCount = message 402 (codes "wrong argument count")
name_message WrongUse = message 403 (codes "wrong use")
name_message ArraySize = message 703 (codes "array size")
name_message TooManyCells = message 704 (codes "too many cells")
