use Rattle.std.proofs.Common.{ap, ◌∙◌}
use Rattle.constraints.specs.LeftSides.{left_parts}
use Rattle.constraints.proofs.spreading.Spreading.joined.Goals as goal

pub returns-clause-added : goal.returns-clause-added
returns-clause-added c = λ atoms left.
    c.in_ok-add_inner.ensures atoms (ap (left_parts c.args.self.now.table.now.core.now.labels) c.from_vec.ensures.items ∙ left)
