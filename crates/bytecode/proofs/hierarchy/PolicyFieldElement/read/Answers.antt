use Rattle.std.proofs.Common.{arith}
use Rattle.bytecode.proofs.Facts.{readers-read}
use Rattle.bytecode.proofs.hierarchy.PolicyFieldElement.read.Goals as goal

pub of-policy-requires-clause-ascending : goal.of-policy-requires-clause-ascending
of-policy-requires-clause-ascending c =
    (readers-read c.args.self.now.principals c.in_ok-owner.owner c.args.bytes.now c.in_ok-owner.rest.now c.in_ok-readers.readers.items c.in_ok-readers.rest.now (record { below = λ i. omega (arith, c.type_inv.bytes i) }) c.in_ok-owner.ensures c.in_ok-readers.ensures).readers_ascend

pub of-policy-requires-clause-owner_left_out : goal.of-policy-requires-clause-owner_left_out
of-policy-requires-clause-owner_left_out c =
    (readers-read c.args.self.now.principals c.in_ok-owner.owner c.args.bytes.now c.in_ok-owner.rest.now c.in_ok-readers.readers.items c.in_ok-readers.rest.now (record { below = λ i. omega (arith, c.type_inv.bytes i) }) c.in_ok-owner.ensures c.in_ok-readers.ensures).owner_left_out
