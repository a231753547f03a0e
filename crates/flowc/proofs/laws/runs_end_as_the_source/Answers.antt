use Rattle.flowc.proofs.Promises.{run_ends_as_the_source}
use Rattle.flowc.proofs.laws.runs_end_as_the_source.Goals as goal

pub returns : goal.returns
returns c = run_ends_as_the_source c.one_spelling.ensures.contents
