use Rattle.gathering.proofs.Numbers.{labellings-fit}
use Rattle.gathering.proofs.laws.labellings_fit_what_is_gathered.Goals as goal

pub returns : goal.returns
returns c = labellings-fit
