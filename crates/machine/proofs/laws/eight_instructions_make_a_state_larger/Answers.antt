use Rattle.machine.proofs.Growing.{grows_by_name}
use Rattle.machine.proofs.laws.eight_instructions_make_a_state_larger.Goals as goal

pub returns : goal.returns
returns c = λ p. grows_by_name p
