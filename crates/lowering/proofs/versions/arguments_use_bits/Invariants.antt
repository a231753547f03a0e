use Rattle.std.proofs.Common.{◌≡◌, drop, map}
use Rattle.std.specs.List.{list_any}
use Rattle.resolved.specs.TreeOf.{expression_of}
use Rattle.resolved.specs.BitUse.{expression_uses_bits}
use Rattle.lowering.proofs.versions.arguments_use_bits.Given as goal

abbrev pub invariant-loop-argument : goal.invariant-loop-argument
invariant-loop-argument l =
    list_any expression_uses_bits (map expression_of (drop l.argument-index l.arguments)) ≡ list_any expression_uses_bits (map expression_of l.arguments)
