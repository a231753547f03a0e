use Rattle.std.proofs.Common.{◌≡◌, ◌+◌, drop, map}
use Rattle.resolved.specs.TreeOf.{expression_of}
use Rattle.lowering.specs.Expressions.{arguments_size}
use Rattle.lowering.proofs.operands.arguments_size.Given as goal

abbrev pub invariant-loop-argument : goal.invariant-loop-argument
invariant-loop-argument l =
    l.size + arguments_size (map expression_of (drop l.argument-index l.arguments)) ≡ arguments_size (map expression_of l.arguments)
