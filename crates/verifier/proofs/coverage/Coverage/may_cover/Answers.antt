use Rattle.std.proofs.Common.{arith}
use Rattle.verifier.proofs.coverage.Coverage.may_cover.Goals as goal

pub returns-then-at-self-2 : goal.returns-then-at-self-2
returns-then-at-self-2 c = λ e x w low high. c.requires.quiet x c.args.at w (omega (arith, c.if-at-self.false)) (omega (arith, c.if-at-self-2.true)) low high
