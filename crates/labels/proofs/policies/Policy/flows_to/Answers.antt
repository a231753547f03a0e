use Rattle.std.proofs.Common.{◌≡◌, rules}
use Rattle.labels.specs.Label.{policy_flows}
use Rattle.labels.proofs.Tests.{policy_flows-decides}
use Rattle.labels.proofs.policies.Policy.flows_to.Goals as goal

pub returns-then-acts_for-clause-flows : goal.returns-then-acts_for-clause-flows
returns-then-acts_for-clause-flows c =
    let test : c.allows_each.result ≡ policy_flows c.args.hierarchy.now c.args.self.now c.args.other.now = search rules in
    rw test (policy_flows-decides c.args.hierarchy.now c.args.self.now c.args.other.now)
