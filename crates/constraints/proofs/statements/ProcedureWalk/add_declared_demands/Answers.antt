use Rattle.std.proofs.Common.{[], ◌∷◌, ap, get_or, map, subst, arith}
use Rattle.std.proofs.lemmas.List.{get_or_default, take_all}
use Rattle.resolved.specs.ProgramOf.{thrown_entry}
use Rattle.resolved.specs.declared.tables.Thrown.{Thrown}
use Rattle.gathering.specs.Walk.{inner_atom, thrown_constraints}
use Rattle.solver.specs.declared.constraints.Atom.TheVariants as stored
use Rattle.constraints.specs.Added.{AreAdded}
use Rattle.constraints.specs.LeftSides.{Unknown, scope_of}
use Rattle.constraints.specs.Procedures.{number_in}
use Rattle.constraints.specs.declared.exit_unknowns.ExitUnknown.{ExitUnknown}
use Rattle.constraints.proofs.Added.{alone-left}
use Rattle.constraints.proofs.Declared.{demands-next}
use Rattle.constraints.proofs.statements.ProcedureWalk.add_declared_demands.Goals as goal

pub loop-declared-preserved : goal.loop-declared-preserved
loop-declared-preserved c = λ at_is.
    let core = c.args.self.now.table.now.core.now in
    let table = c.args.self.now.table.now.core.now.labels in
    let i = c.loop-declared.declared-index in
    let none : Thrown = record { exception = 0; label = 0 } in
    let x : Thrown = get_or c.args.throws.now i none in
    let k = number_in c.args.thrown.now x.exception in
    demands-next core table c.args.self.now.procedure c.args.at (number_in c.args.thrown.now) c.args.throws.now i x _ _ _
    c.loop-declared-test.true (get_or_default c.args.throws.now i none x c.loop-declared-test.true) at_is (c.loop-declared.invariant at_is)
    (c.in_ok-add_rule.ensures c.args.self.now.procedure (inner_atom k ∷ [])
    (alone-left core table (inner_atom k) (stored.Unknown c.entry_in.result.number) c.in_ok-left.left.items c.in_ok-left.ensures
    (ap (λ (entry : ExitUnknown). Unknown entry.number) c.entry_in.ensures)))

pub returns : goal.returns
returns c = λ at_is.
    let core = c.args.self.now.table.now.core.now in
    let table = c.args.self.now.table.now.core.now.labels in
    subst (λ list. AreAdded core table (thrown_constraints (scope_of core c.args.self.now.procedure) (number_in c.args.thrown.now) (map (thrown_entry core.labels) list)) c.args.constraints.now.items c.loop-declared.constraints.items)
    (take_all c.loop-declared.declared-index c.args.throws.now (omega (arith, c.loop-declared-test.false))) (c.loop-declared.invariant at_is)
