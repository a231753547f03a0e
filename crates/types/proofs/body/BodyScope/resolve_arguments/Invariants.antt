use Rattle.std.proofs.Common.{map}
use Rattle.syntax.specs.Tree.{expression_tree}
use Rattle.types.specs.Statements.{next_argument, arguments_finding}
use Rattle.types.specs.Views.{expressions_of, names_of}
use Rattle.types.proofs.Loops.{GoesOn}
use Rattle.types.proofs.body.BodyScope.resolve_arguments.Given as goal

abbrev pub invariant-loop-argument : goal.invariant-loop-argument
invariant-loop-argument l =
    GoesOn (next_argument (names_of l.self) l.parameters) expression_tree l.written (arguments_finding (names_of l.self) l.parameters (map expression_tree l.written)) (expressions_of l.arguments) l.argument-index
