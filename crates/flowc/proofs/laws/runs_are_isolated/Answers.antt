use Rattle.flowc.proofs.Promises.{error_is_fixed, runs_isolated, shows_itself}
use Rattle.flowc.proofs.laws.runs_are_isolated.Goals as goal

pub returns-clause-stdout : goal.returns-clause-stdout
returns-clause-stdout c = shows_itself

pub returns-clause-isolated : goal.returns-clause-isolated
returns-clause-isolated c = runs_isolated c.one_spelling.ensures.contents c.one_reading.ensures.one_hierarchy

pub returns-clause-fixed : goal.returns-clause-fixed
returns-clause-fixed c = error_is_fixed c.one_spelling.ensures.contents c.spellings_are_not_refused.ensures c.one_reading.ensures.one_hierarchy c.one_reading.ensures.not_both
