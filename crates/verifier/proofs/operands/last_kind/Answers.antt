use Rattle.std.proofs.Common.{arith}
use Rattle.verifier.proofs.Packing.{int_next, boolean_next}
use Rattle.verifier.proofs.operands.last_kind.Goals as goal

pub returns-then-bits-lt-HIGHEST : goal.returns-then-bits-lt-HIGHEST
returns-then-bits-lt-HIGHEST c = λ kinds long is. int_next 63 kinds (omega (arith, long)) (omega (arith, is, c.if-bits-lt-HIGHEST.true))

pub returns-else-bits-lt-HIGHEST : goal.returns-else-bits-lt-HIGHEST
returns-else-bits-lt-HIGHEST c = λ kinds long is. boolean_next 63 kinds (omega (arith, long)) (omega (arith, is, c.if-bits-lt-HIGHEST.false))
