use Rattle.std.proofs.Common.{◌≡◌}
use Rattle.labels.specs.Label.{flows}
use Rattle.labels.specs.LabelTable.{label_at}
use Rattle.labels.proofs.Found.{none_decides}
use Rattle.labels.proofs.Tests.{flows-decides}
use Rattle.labels.proofs.label_tables.LabelTable.flows.Goals as goal

pub returns-clause-test : goal.returns-clause-test
returns-clause-test c = none_decides c.find_uncovered.result c.is_none.result _ c.is_none.ensures c.find_uncovered.ensures.none

pub returns-clause-flows : goal.returns-clause-flows
returns-clause-flows c =
    let test : c.is_none.result ≡ flows c.args.hierarchy.now (label_at c.args.self.now c.args.from) (label_at c.args.self.now c.args.to) =
    none_decides c.find_uncovered.result c.is_none.result _ c.is_none.ensures c.find_uncovered.ensures.none in
    rw test (flows-decides c.args.hierarchy.now (label_at c.args.self.now c.args.from) (label_at c.args.self.now c.args.to))
