use Rattle.labels.proofs.Carried.{own-label}
use Rattle.labels.proofs.laws.labels_stay_themselves.Goals as goal

pub returns : goal.returns
returns c = own-label
