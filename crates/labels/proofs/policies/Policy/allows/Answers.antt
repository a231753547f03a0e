use Rattle.std.proofs.Common.{◌≡◌, rules}
use Rattle.labels.specs.Label.{policy_allows}
use Rattle.labels.proofs.Tests.{policy_allows-decides}
use Rattle.labels.proofs.policies.Policy.allows.Goals as goal

pub returns-else-acts_for-clause-allows : goal.returns-else-acts_for-clause-allows
returns-else-acts_for-clause-allows c =
    let test : c.is_read_by.result ≡ policy_allows c.args.hierarchy.now c.args.principal c.args.self.now = search rules in
    rw test (policy_allows-decides c.args.hierarchy.now c.args.principal c.args.self.now)
