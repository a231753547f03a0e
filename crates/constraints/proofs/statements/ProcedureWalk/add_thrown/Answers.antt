use Rattle.std.proofs.Common.{sym, ◌∙◌, List, ◌∷◌}
use Rattle.std.specs.Prelude.{Some}
use Rattle.resolved.specs.CoreOf.{program_of}
use Rattle.resolved.specs.declared.statement.Exit.TheVariants.{Throw}
use Rattle.gathering.specs.Names.{NamedAtom, named_atoms}
use Rattle.gathering.specs.Walk.{call_atoms}
use Rattle.constraints.specs.ExitUnknowns.{exit_unknowns_around}
use Rattle.constraints.proofs.Added.{flow-added}
use Rattle.constraints.proofs.statements.ProcedureWalk.add_thrown.Goals as goal

pub returns-in_ok-add_inner-in-Some : goal.returns-in_ok-add_inner-in-Some
returns-in_ok-add_inner-in-Some c = λ named stands.
    let core = c.args.self.now.table.now.core.now in
    let table = c.args.self.now.table.now.core.now.labels in
    let procedure = c.args.self.now.procedure in
    let q : List NamedAtom = named ∷ named_atoms (call_atoms (program_of core) c.args.callee (Throw c.args.exception)) in
    flow-added core table q (Some c.in-Some.number) (exit_unknowns_around c.args.around.now (Throw c.args.exception)) _ _
    (sym c.in-Some.is ∙ c.exit_unknown.ensures) (c.in_ok-add_inner-in-Some.ensures q (c.in_ok-left-in-Some.ensures named stands))
