use Rattle.isolation.proofs.Laws.{ends-unread}
use Rattle.isolation.proofs.confinement.possible_exits_are_unread.Goals as goal

pub returns : goal.returns
returns c = ends-unread
