use Rattle.principals.proofs.Closure.{acts_for-decides}
use Rattle.principals.proofs.laws.acts_for_decides.Goals as goal

pub returns : goal.returns
returns c = acts_for-decides
