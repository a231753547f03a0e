use Rattle.modules.proofs.Widths.{all_of_version}
use Rattle.modules.proofs.laws.modules_have_instructions_of_their_version.Goals as goal

pub returns : goal.returns
returns c = all_of_version
