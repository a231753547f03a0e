use Rattle.std.proofs.Common.{ap, ◌∙◌, ◌||◌, get_or, List, Bool, []}
use Rattle.labels.specs.Row.{has}
use Rattle.labels.proofs.Held.{has-none}
use Rattle.solver.proofs.Standing.{has_at-row}
use Rattle.solver.proofs.breaker.row_of_unknown.Goals as goal

pub returns-clause-members : goal.returns-clause-members
returns-clause-members c = λ n.
    c.in_ok-include_in.ensures.members n
    ∙ (ap (λ b. b || has (get_or c.args.rows.now c.args.unknown []) n) (ap (λ (row : List Bool). has row n) c.in_ok-row.ensures ∙ has-none c.args.count n)
    ∙ has_at-row c.args.rows.now c.args.unknown n)
