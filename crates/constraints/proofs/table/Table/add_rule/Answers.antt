use Rattle.std.proofs.Common.{refl}
use Rattle.std.specs.Prelude.{Some}
use Rattle.lattices.specs.Constraints.{renamed}
use Rattle.resolved.specs.CoreOf.{program_of}
use Rattle.resolved.specs.Labelled.{label_of}
use Rattle.gathering.specs.Names.{NamedConstraint, Real}
use Rattle.solver.specs.Rule.{rule_number}
use Rattle.constraints.specs.Added.{Stored, wanted_constraint}
use Rattle.constraints.proofs.Added.{added-one, stands-made}
use Rattle.constraints.proofs.table.Table.add_rule.Goals as goal

pub returns : goal.returns
returns c = λ procedure atoms is.
    let table = c.args.self.now in
    let program = program_of table.core.now in
    let target = c.args.target in
    let made : Stored = record { at = c.args.at; rule = c.args.rule; left = c.args.left; target = Some target; right = c.part-right.result } in
    let named : NamedConstraint = record { at = c.args.at; rule = rule_number c.args.rule; left = atoms; target = Some target; right = renamed Real (label_of program target) } in
    added-one table.core.now table.core.now.labels made named c.args.constraints.now.items c.add.new.constraints.items c.in_ok-add.ensures
    (stands-made table.core.now.labels made (wanted_constraint program named) refl refl is refl c.part-right.ensures)
