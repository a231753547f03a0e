use Rattle.std.proofs.Common.{◌≡◌, ◌+◌, ◌<◌, ◌^◌}
use Rattle.verifier.specs.Operands.{packed}
use Rattle.verifier.proofs.Arguments.{reversed}
use Rattle.verifier.proofs.parameters.block_of.Given as goal

-- the bits of the slots so far
abbrev pub invariant-loop-index : goal.invariant-loop-index
invariant-loop-index l = record {
  small : l.bits < 2 ^ l.index;
  bits_are : packed l.index (reversed (l.first + l.index) l.slots) ≡ l.bits;
}
