use Rattle.isolation.proofs.Laws.{statements-agree}
use Rattle.isolation.proofs.noninterference.two_runs_agree.Goals as goal

pub returns : goal.returns
returns c = statements-agree
