use Rattle.host.proofs.Isolation.{isolated}
use Rattle.host.proofs.laws.sessions_are_isolated.Goals as goal

pub returns : goal.returns
returns c = isolated c.one_spelling.ensures.contents
