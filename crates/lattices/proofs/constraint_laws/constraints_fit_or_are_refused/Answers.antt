use Rattle.lattices.proofs.Constraints.{fits-or_refused}
use Rattle.lattices.proofs.constraint_laws.constraints_fit_or_are_refused.Goals as goal

pub returns : goal.returns
returns g c = λ same test l laws cs. fits-or_refused same test.only_same test.each_itself l laws cs
