use Rattle.host.proofs.Isolation.{go_up}
use Rattle.host.proofs.laws.ids_are_never_given_again.Goals as goal

pub returns : goal.returns
returns c = go_up
