use Rattle.resolved.proofs.Demands.{holds-decides, fits-decides, labelled-decides}
use Rattle.resolved.proofs.laws.tests_decide_demands.Goals as goal

pub returns-clause-holds : goal.returns-clause-holds
returns-clause-holds c = holds-decides

pub returns-clause-fits : goal.returns-clause-fits
returns-clause-fits c = fits-decides

pub returns-clause-labelled : goal.returns-clause-labelled
returns-clause-labelled c = labelled-decides
