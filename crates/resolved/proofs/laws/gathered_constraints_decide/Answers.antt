use Rattle.resolved.proofs.Flow.{gathered-labelled, gathered-refused}
use Rattle.resolved.proofs.laws.gathered_constraints_decide.Goals as goal

pub returns-clause-labelled : goal.returns-clause-labelled
returns-clause-labelled c = gathered-labelled

pub returns-clause-refused : goal.returns-clause-refused
returns-clause-refused c = gathered-refused
