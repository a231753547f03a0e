use Rattle.gathering.proofs.ReroutedPrograms.{rerouted-constraints}
use Rattle.gathering.proofs.laws.flows_may_go_by_further_unknowns.Goals as goal

pub returns : goal.returns
returns c = λ program formed none base added rerouted. rerouted-constraints program formed none base added rerouted
