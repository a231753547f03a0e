use Rattle.verifier.proofs.Bounds.{bounded}
use Rattle.verifier.proofs.NeverStuck.{never_stuck}
use Rattle.verifier.proofs.safety.modules_that_no_rule_refuses_are_never_stuck.Goals as goal

pub returns : goal.returns
returns c = λ m fits free. never_stuck m (bounded m fits) free
