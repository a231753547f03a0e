use Rattle.std.proofs.Common.{◌<◌, subst}
use Rattle.labels.proofs.Readers.{read_by_row}
use Rattle.labels.proofs.policies.Policy.is_read_by.Goals as goal

pub returns-then-number-count : goal.returns-then-number-count
returns-then-number-count c =
    read_by_row c.args.hierarchy.now c.count.ensures.kept c.args.number (subst (λ x. c.args.number < x) c.count.ensures.count c.if-number-count.true)
    c.args.self.now.readers c.row.result.now c.row.ensures c.acts_for_some.result c.acts_for_some.ensures
