use Rattle.principals.proofs.Closure.{ActsFor-monotone}
use Rattle.principals.proofs.laws.acts_for_is_monotone.Goals as goal

pub returns : goal.returns
returns c pairs others more a b h = ActsFor-monotone pairs others more h
