use Rattle.gathering.proofs.Faultless.{faultless-gathered}
use Rattle.gathering.proofs.Numbers.{numbered-gathered}
use Rattle.gathering.proofs.laws.programs_are_gathered.Goals as goal

pub returns-clause-numbered : goal.returns-clause-numbered
returns-clause-numbered c = numbered-gathered

pub returns-clause-named : goal.returns-clause-named
returns-clause-named c = faultless-gathered
