use Rattle.host.proofs.Isolation.{add_up, join}
use Rattle.host.proofs.laws.transcripts_join.Goals as goal

pub returns : goal.returns
returns c = record { joined = join; steps = add_up }
