-- The number and the words of what is wrong with the exits of a program's statements.
-- Source: our own.
use Rattle.std.specs.Prelude.{codes}
use Rattle.common.specs.Message.{MessageContents, message}
use Rattle.resolved.specs.declared.fault.ExitRefusalKind.{ExitRefusalKind}
use Rattle.resolved.specs.declared.fault.ExitRefusalKind.TheVariants.{Unreachable, NoValueReturned, Undeclared, NeverRaised, OutsideLoop}

abbrev pub exit_message : ExitRefusalKind → MessageContents
exit_message Unreachable = message 501 (codes "unreachable")
exit_message NoValueReturned = message 502 (codes "no value returned")
exit_message Undeclared = message 503 (codes "exception not declared")
exit_message NeverRaised = message 504 (codes "never raised")
exit_message OutsideLoop = message 505 (codes "not in a loop")
