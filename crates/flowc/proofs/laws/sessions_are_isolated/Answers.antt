use Rattle.flowc.proofs.Promises.{isolated}
use Rattle.flowc.proofs.laws.sessions_are_isolated.Goals as goal

pub returns : goal.returns
returns c = isolated c.one_spelling.ensures.contents c.sessions_are_isolated.ensures c.sessions_are_fresh_runs.ensures.opened
