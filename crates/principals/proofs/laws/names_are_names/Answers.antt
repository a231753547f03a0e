use Rattle.principals.proofs.Called.{names_are_names}
use Rattle.principals.proofs.laws.names_are_names.Goals as goal

pub returns : goal.returns
returns c = names_are_names
