use Rattle.verifier.proofs.Reported.{excluded}
use Rattle.verifier.proofs.safety.refused_modules_break_a_rule.Goals as goal

pub returns : goal.returns
returns c = λ m refusal reported free. excluded m refusal reported free
