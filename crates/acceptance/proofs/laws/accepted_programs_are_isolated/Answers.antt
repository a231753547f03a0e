use Rattle.acceptance.proofs.laws.accepted_programs_are_isolated.Goals as goal

pub returns : goal.returns
returns c = λ hierarchy source program stand. c.labelled_programs_are_isolated.ensures program stand.ended stand.labelled
