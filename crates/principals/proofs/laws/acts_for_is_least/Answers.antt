use Rattle.principals.specs.ActsFor.{itself, written, through}
use Rattle.principals.proofs.Closure.{ActsFor-least}
use Rattle.principals.proofs.laws.acts_for_is_least.Goals as goal

pub returns-clause-reflexive : goal.returns-clause-reflexive
returns-clause-reflexive g c pairs a = itself a

pub returns-clause-transitive : goal.returns-clause-transitive
returns-clause-transitive g c pairs a b d h k = through a b d h k

pub returns-clause-contains : goal.returns-clause-contains
returns-clause-contains g c pairs a b h = written a b h

pub returns-clause-least : goal.returns-clause-least
returns-clause-least g c pairs reflexive transitive contains a b h =
    ActsFor-least g.R.PrincipalRelation.related pairs reflexive transitive contains h
