use Rattle.std.proofs.lemmas.Result.{IfOk-at_ok}
use Rattle.resolved.specs.Program.{Program}
use Rattle.types.proofs.NamedMeanings.{MeaningsHaveNames, meanings_have_names}
use Rattle.types.proofs.ReadBodies.{TopAgrees, top_agrees, ReadsProgram, program_read}
use Rattle.types.proofs.laws.numbers_read_as_names.Goals as goal

pub returns-clause-numbers : goal.returns-clause-numbers
returns-clause-numbers c h tree program e = (IfOk-at_ok (MeaningsHaveNames tree.items) e (meanings_have_names h tree)).names

pub returns-clause-main : goal.returns-clause-main
returns-clause-main c h tree program e = (IfOk-at_ok (MeaningsHaveNames tree.items) e (meanings_have_names h tree)).main

pub returns-clause-written : goal.returns-clause-written
returns-clause-written c h tree program e =
    IfOk-at_ok (λ (one : Program). TopAgrees tree.items one → ReadsProgram tree.items one) e (program_read h tree)
    (λ top is. top_agrees program top.names ((IfOk-at_ok (MeaningsHaveNames tree.items) e (meanings_have_names h tree)).names top is))
