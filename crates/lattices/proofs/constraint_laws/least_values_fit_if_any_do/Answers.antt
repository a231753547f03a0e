use Rattle.lattices.proofs.Constraints.{least-fits}
use Rattle.lattices.proofs.constraint_laws.least_values_fit_if_any_do.Goals as goal

pub returns : goal.returns
returns g c = λ l laws cs values others least fits. least-fits l laws cs values least others fits
