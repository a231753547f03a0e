use Rattle.isolation.proofs.Valued.{calls-give}
use Rattle.isolation.proofs.runs.calls_give_their_value.Goals as goal

pub returns : goal.returns
returns c = calls-give
