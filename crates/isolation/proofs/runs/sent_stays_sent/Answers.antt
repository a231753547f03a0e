use Rattle.isolation.proofs.Grows.{statement-grows, calls-grow}
use Rattle.isolation.proofs.runs.sent_stays_sent.Goals as goal
use Rattle.resolved.specs.Meaning.{calls_with}

pub returns : goal.returns
returns c program frames k statement s = (statement-grows statement (calls_with program k frames) k (calls-grow program k frames) s).sent
