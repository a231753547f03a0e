use Rattle.lattices.proofs.Constraints.{least_values, least_values-least}
use Rattle.lattices.proofs.constraint_laws.least_values_are_unique.Goals as goal

pub returns-clause-there : goal.returns-clause-there
returns-clause-there g c = λ same test l laws cs.
    (least_values same test.only_same test.each_itself l laws cs, least_values-least same test.only_same test.each_itself l laws cs)

pub returns-clause-unique : goal.returns-clause-unique
returns-clause-unique g c = λ l cs values others one other u occurs. (one.below others other.fits u occurs, other.below values one.fits u occurs)
