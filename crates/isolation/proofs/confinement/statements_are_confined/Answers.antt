use Rattle.isolation.proofs.Laws.{confined}
use Rattle.isolation.proofs.confinement.statements_are_confined.Goals as goal

pub returns : goal.returns
returns c = confined
