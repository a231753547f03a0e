use Rattle.lattices.proofs.Constraints.{chain-rules_out}
use Rattle.lattices.proofs.constraint_laws.a_chain_rules_out_all_values.Goals as goal

pub returns : goal.returns
returns g c = λ l laws cs from chain last is values fits. chain-rules_out l laws cs from chain last is values fits
