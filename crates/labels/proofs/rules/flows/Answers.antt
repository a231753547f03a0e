use Rattle.std.proofs.Common.{◌≡◌, rules}
use Rattle.labels.specs.Label.{flows}
use Rattle.labels.proofs.Tests.{flows-decides}
use Rattle.labels.proofs.rules.flows.Goals as goal

pub returns-clause-flows : goal.returns-clause-flows
returns-clause-flows c =
    let test : c.covers_each.result ≡ flows c.args.hierarchy.now c.args.from.now c.args.to.now = search rules in
    rw test (flows-decides c.args.hierarchy.now c.args.from.now c.args.to.now)
