use Rattle.std.proofs.Common.{[], ◌∷◌, refl}
use Rattle.gathering.specs.Walk.{inner_atom}
use Rattle.solver.specs.declared.constraints.Atom.TheVariants as stored
use Rattle.constraints.proofs.Added.{alone-left}
use Rattle.constraints.proofs.Bodies.{ends-added, ends-none}
use Rattle.constraints.proofs.statements.ProcedureWalk.add_exit_demands.Goals as goal

pub returns-then-only-clause-added : goal.returns-then-only-clause-added
returns-then-only-clause-added c = λ level had is one taken.
    ends-none c.args.self.now.table.now.core.now c.args.self.now.table.now.core.now.labels c.args.self.now.procedure c.args.number c.args.only _ one c.if-only.true

pub returns-clause-added : goal.returns-clause-added
returns-clause-added c = λ level had is one taken.
    let core = c.args.self.now.table.now.core.now in
    let table = c.args.self.now.table.now.core.now.labels in
    let n = c.args.number in
    ends-added core table c.args.self.now.procedure n level c.args.only c.args.procedure.now c.deref.result.now had c.args.progress.now.thrown.items c.deref-2.result.now _ _ _
    is one c.if-only.false taken c.deref.ensures.value c.deref-2.ensures.value
    (c.in_ok-add_rule.ensures c.args.self.now.procedure (inner_atom n ∷ [])
    (alone-left core table (inner_atom n) (stored.Unknown n) c.in_ok-left.left.items c.in_ok-left.ensures refl))
    c.in_ok-add_declared_demands.ensures
