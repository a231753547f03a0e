use Rattle.isolation.proofs.Laws.{isolated}
use Rattle.isolation.proofs.noninterference.labelled_programs_are_isolated.Goals as goal

pub returns : goal.returns
returns c = isolated
