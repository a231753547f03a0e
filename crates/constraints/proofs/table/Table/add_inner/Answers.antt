use Rattle.std.proofs.Common.{refl}
use Rattle.std.specs.Prelude.{None}
use Rattle.resolved.specs.CoreOf.{program_of}
use Rattle.gathering.specs.Names.{NamedConstraint}
use Rattle.gathering.specs.Walk.{inner_atom}
use Rattle.solver.specs.declared.constraints.Atom.TheVariants as stored
use Rattle.solver.specs.declared.rule.Rule.TheVariants.{Between}
use Rattle.constraints.specs.Added.{Stored, wanted_constraint}
use Rattle.constraints.proofs.Added.{added-one, stands-made}
use Rattle.constraints.proofs.table.Table.add_inner.Goals as goal

pub returns : goal.returns
returns c = λ atoms is.
    let table = c.args.self.now in
    let program = program_of table.core.now in
    let made : Stored = record { at = 0; rule = Between; left = c.args.left; target = None; right = stored.Unknown c.args.number } in
    let named : NamedConstraint = record { at = 0; rule = 0; left = atoms; target = None; right = inner_atom c.args.number } in
    added-one table.core.now table.core.now.labels made named c.args.constraints.now.items c.add.new.constraints.items c.in_ok-add.ensures
    (stands-made table.core.now.labels made (wanted_constraint program named) refl refl is refl refl)
