use Rattle.std.proofs.Common.{◌<◌, rules, sym, ap, ◌∙◌, ◌||◌, [], length, arith}
use Rattle.labels.specs.Row.{has}
use Rattle.solver.specs.Rows.{atom_has}
use Rattle.solver.proofs.Standing.{has_at-row}
use Rattle.solver.proofs.breaker.add_atom.Goals as goal

pub include_in-requires : goal.include_in-requires
include_in-requires c =
    let inside : c.in-Unknown.u < length c.args.rows.now = search rules in
    let short = c.requires.sized c.in-Unknown.u [] inside in
    omega (arith, short)

pub returns-in_ok-include_in-in-Unknown-clause-members : goal.returns-in_ok-include_in-in-Unknown-clause-members
returns-in_ok-include_in-in-Unknown-clause-members c = λ n.
    c.in_ok-include_in-in-Unknown.ensures.members n
    ∙ ap (λ b. has c.args.row.now n || b)
    (has_at-row c.args.rows.now c.in-Unknown.u n ∙ ap (atom_has c.args.rows.now n) (sym c.in-Unknown.is))
