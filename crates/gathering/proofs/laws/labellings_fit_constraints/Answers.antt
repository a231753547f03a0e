use Rattle.gathering.proofs.ReroutedPrograms.{constraints-fit}
use Rattle.gathering.proofs.laws.labellings_fit_constraints.Goals as goal

pub returns : goal.returns
returns c = constraints-fit
