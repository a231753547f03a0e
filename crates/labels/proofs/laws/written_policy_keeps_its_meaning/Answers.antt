use Rattle.labels.proofs.Meaning.{readers_with-iff, PolicyAllows-written, PolicyFlowsTo-written}
use Rattle.labels.proofs.Written.{IsCanonicalPolicy-written}
use Rattle.labels.proofs.laws.written_policy_keeps_its_meaning.Goals as goal

pub returns-clause-readers : goal.returns-clause-readers
returns-clause-readers c = readers_with-iff

pub returns-clause-canonical : goal.returns-clause-canonical
returns-clause-canonical c = IsCanonicalPolicy-written

pub returns-clause-allows : goal.returns-clause-allows
returns-clause-allows c = PolicyAllows-written

pub returns-clause-flow : goal.returns-clause-flow
returns-clause-flow c = PolicyFlowsTo-written
