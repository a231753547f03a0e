use Rattle.labels.proofs.Flow.{MayRead-same, FlowsTo-same}
use Rattle.labels.proofs.FlowTests.{may_read-same, flows-same}
use Rattle.labels.proofs.laws.only_the_set_of_policies_counts.Goals as goal

pub returns-clause-reads_relation : goal.returns-clause-reads_relation
returns-clause-reads_relation c = MayRead-same

pub returns-clause-reads_test : goal.returns-clause-reads_test
returns-clause-reads_test c = may_read-same

pub returns-clause-flow_relation : goal.returns-clause-flow_relation
returns-clause-flow_relation c = FlowsTo-same

pub returns-clause-flow_test : goal.returns-clause-flow_test
returns-clause-flow_test c = flows-same
