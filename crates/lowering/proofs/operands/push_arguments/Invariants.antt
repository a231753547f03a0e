use Rattle.std.proofs.Common.{drop, map}
use Rattle.resolved.specs.TreeOf.{expression_of}
use Rattle.lowering.proofs.Appending.{AreAdded}
use Rattle.lowering.proofs.operands.push_arguments.Given as goal

-- the code so far and that of the arguments left
abbrev pub invariant-loop-argument : goal.invariant-loop-argument
invariant-loop-argument l =
    AreAdded l.fn.code.items (map expression_of l.arguments) l.code.items (map expression_of (drop l.argument-index l.arguments))
