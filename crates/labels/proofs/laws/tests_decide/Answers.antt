use Rattle.labels.proofs.Tests.{policy_allows-decides, may_read-decides, policy_flows-decides, covers-decides, flows-decides}
use Rattle.labels.proofs.Seen.{pairs_for-decides}
use Rattle.labels.proofs.laws.tests_decide.Goals as goal

pub returns-clause-allows : goal.returns-clause-allows
returns-clause-allows c = policy_allows-decides

pub returns-clause-reads : goal.returns-clause-reads
returns-clause-reads c = may_read-decides

pub returns-clause-policy : goal.returns-clause-policy
returns-clause-policy c = policy_flows-decides

pub returns-clause-flow : goal.returns-clause-flow
returns-clause-flow c = flows-decides

pub returns-clause-covers : goal.returns-clause-covers
returns-clause-covers c = covers-decides

pub returns-clause-sees : goal.returns-clause-sees
returns-clause-sees c = pairs_for-decides
