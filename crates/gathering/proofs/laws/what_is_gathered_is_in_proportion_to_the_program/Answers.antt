use Rattle.gathering.proofs.Small.{program-small}
use Rattle.gathering.proofs.laws.what_is_gathered_is_in_proportion_to_the_program.Goals as goal

pub returns : goal.returns
returns c = program-small
