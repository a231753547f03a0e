use Rattle.modules.proofs.Spelling.{fits_spelled, is_spelled}
use Rattle.modules.proofs.laws.instructions_are_spelled.Goals as goal

pub returns-clause-spelled : goal.returns-clause-spelled
returns-clause-spelled c = λ version instruction h. is_spelled version instruction h.0 h.1

pub returns-clause-none : goal.returns-clause-none
returns-clause-none c = fits_spelled
