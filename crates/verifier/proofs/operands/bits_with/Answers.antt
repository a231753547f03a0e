use Rattle.std.proofs.Common.{◌+◌, ◌*◌, ◌%◌, ◌^◌, ℕ, ap, ◌∙◌}
use Rattle.verifier.proofs.Packing.{packed_with}
use Rattle.verifier.proofs.operands.bits_with.Goals as goal

pub returns : goal.returns
returns c = λ kinds is. ap (λ (b : ℕ). c.args.bits % 2 ^ 63 * 2 + b) c.bit_of.ensures ∙ packed_with kinds c.args.kind c.args.bits is
