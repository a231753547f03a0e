use Rattle.gathering.proofs.Counted.{unknowns-counted}
use Rattle.gathering.proofs.Numbers.{numbers-below}
use Rattle.gathering.proofs.laws.unknowns_have_numbers_below_their_count.Goals as goal

pub returns-clause-below : goal.returns-clause-below
returns-clause-below c = numbers-below

pub returns-clause-count : goal.returns-clause-count
returns-clause-count c = unknowns-counted
