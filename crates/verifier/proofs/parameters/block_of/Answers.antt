use Rattle.std.proofs.Common.{◌≡◌, ◌+◌, ◌-◌, ◌*◌, ℕ, arith, ap, sym, ◌∙◌}
use Rattle.common.specs.declared.base_type.BaseType.TheVariants.{Int}
use Rattle.modules.specs.declared.declaration.Slot.TheVariants.{Scalar}
use Rattle.verifier.specs.Operands.{bit, packed}
use Rattle.verifier.proofs.Arguments.{packed_step, reversed}
use Rattle.verifier.proofs.Packing.{packed_small}
use Rattle.verifier.proofs.parameters.block_of.Goals as goal

pub loop-index-preserved : goal.loop-index-preserved
loop-index-preserved c =
    let l = c.loop-index in
    let k = c.args.count - 64 + l.index in
    let more : c.args.count - 64 + (l.index + 1) ≡ k + 1 = omega arith in
    let step : l.bits * 2 + c.bit_of.result ≡ packed (l.index + 1) (reversed (c.args.count - 64 + (l.index + 1)) c.args.slots.now) =
    packed_step c.args.slots.now k (c.args.count - 64 + (l.index + 1)) (Scalar Int) more (omega (arith, c.requires.there, c.requires.full, c.loop-index-test.true)) l.index l.bits c.bit_of.result l.invariant.bits_are (c.bit_of.ensures ∙ ap bit c.kind.ensures) in
    record {
      small = omega (arith, step, packed_small (l.index + 1) (reversed (c.args.count - 64 + (l.index + 1)) c.args.slots.now));
      bits_are = sym step;
    }

pub returns : goal.returns
returns c =
    let last : c.loop-index.index ≡ 64 = omega (arith, c.loop-index-test.false, c.loop-index.auto.index-end) in
    let all : c.args.count - 64 + 64 ≡ c.args.count = omega (arith, c.requires.full) in
    sym c.loop-index.invariant.bits_are ∙ ap (λ (n : ℕ). packed n (reversed (c.args.count - 64 + n) c.args.slots.now)) last ∙ ap (λ (n : ℕ). packed 64 (reversed n c.args.slots.now)) all
