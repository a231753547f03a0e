use Rattle.host.proofs.Isolation.{go_on, show_on}
use Rattle.host.proofs.laws.sessions_go_on.Goals as goal

pub returns : goal.returns
returns c = record { stands = go_on; views = show_on }
