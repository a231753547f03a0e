use Rattle.labels.proofs.Flow.{MayRead-flowing}
use Rattle.labels.proofs.FlowTests.{may_read-flowing}
use Rattle.labels.proofs.laws.flow_adds_no_reader.Goals as goal

pub returns-clause-relation : goal.returns-clause-relation
returns-clause-relation c = MayRead-flowing

pub returns-clause-test : goal.returns-clause-test
returns-clause-test c = may_read-flowing
