use Rattle.std.proofs.Common.{◌∙◌, sym}
use Rattle.labels.proofs.Compared.{all-flow}
use Rattle.labels.proofs.under.Under.all_flow.Goals as goal

pub covers-requires : goal.covers-requires
covers-requires c = c.cover.ensures.right.covered_are.count ∙ sym c.widen.ensures.left.policies_count

pub returns-clause-flow : goal.returns-clause-flow
returns-clause-flow c = λ yes.
    all-flow c.args.self.now.hierarchy.now c.args.self.now.entries.now c.widen.new.left c.cover.new.right c.args.labels.now c.args.to c.widen.ensures.left c.cover.ensures.right
    c.in_ok-cover.ensures.to (c.covers.ensures.0 yes) c.in_ok-widen.ensures.labels
