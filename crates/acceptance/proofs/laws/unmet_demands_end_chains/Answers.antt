use Rattle.acceptance.proofs.Demands.{unmet-ends_chain}
use Rattle.acceptance.proofs.laws.unmet_demands_end_chains.Goals as goal

pub returns : goal.returns
returns c = unmet-ends_chain
