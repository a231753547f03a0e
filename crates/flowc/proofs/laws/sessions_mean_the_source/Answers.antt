use Rattle.flowc.proofs.Promises.{ends_as_the_source, no_less, no_more, some_show_all}
use Rattle.flowc.proofs.laws.sessions_mean_the_source.Goals as goal

pub returns-clause-no_more : goal.returns-clause-no_more
returns-clause-no_more c = no_more c.sessions_are_fresh_runs.ensures.views

pub returns-clause-no_less : goal.returns-clause-no_less
returns-clause-no_less c = no_less c.sessions_are_fresh_runs.ensures.views c.sessions_are_fresh_runs.ensures.ended

pub returns-clause-some : goal.returns-clause-some
returns-clause-some c = some_show_all c.sessions_are_fresh_runs.ensures.views c.sessions_are_fresh_runs.ensures.ended

pub returns-clause-ended : goal.returns-clause-ended
returns-clause-ended c = ends_as_the_source c.sessions_are_fresh_runs.ensures.views c.sessions_are_fresh_runs.ensures.ended
