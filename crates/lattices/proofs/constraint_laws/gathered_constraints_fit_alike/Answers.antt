use Rattle.lattices.proofs.Gathered.{fits-down, fits-up}
use Rattle.lattices.proofs.constraint_laws.gathered_constraints_fit_alike.Goals as goal

pub returns-clause-down : goal.returns-clause-down
returns-clause-down g c = λ l laws ds cs gathered values fits. fits-down ds cs gathered l laws values fits

pub returns-clause-up : goal.returns-clause-up
returns-clause-up g c = λ same test l laws ds cs gathered values fits.
    fits-up ds cs gathered l laws same test.only_same test.each_itself values fits
