use Rattle.std.proofs.Common.{◌∙◌}
use Rattle.labels.proofs.Held.{joined-is}
use Rattle.labels.proofs.label_tables.joined.Goals as goal

pub returns : goal.returns
returns c =
    c.written.ensures ∙ joined-is c.args.entries.now c.in_ok-row.row c.args.numbers.now c.in_ok-policies.policies.items c.in_ok-row.ensures.bound c.in_ok-row.ensures.parts c.in_ok-policies.ensures
