use Rattle.std.proofs.lemmas.Result.{IfOk-at_ok}
use Rattle.types.proofs.ItemNames.{ProgramNames, program_names}
use Rattle.types.proofs.laws.item_names_are_proper_and_different.Goals as goal

pub returns-clause-proper : goal.returns-clause-proper
returns-clause-proper c h tree program is e = (IfOk-at_ok ProgramNames e (program_names h tree is.written)).proper

pub returns-clause-different : goal.returns-clause-different
returns-clause-different c h tree program is e = (IfOk-at_ok ProgramNames e (program_names h tree is.written)).different
