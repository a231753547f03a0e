use Rattle.std.proofs.Common.{refl, ◌∷◌}
use Rattle.resolved.specs.Exits.{raises}
use Rattle.resolved.specs.Labelled.{value_label}
use Rattle.resolved.specs.TreeOf.{expression_of}
use Rattle.gathering.specs.Names.{named_atoms}
use Rattle.gathering.specs.Walk.{inner_constraint, raise_atoms, raised_flows}
use Rattle.constraints.specs.Ready.{entries_of}
use Rattle.constraints.specs.LeftSides.{scope_of}
use Rattle.constraints.specs.ExitUnknowns.{exit_unknowns_of}
use Rattle.constraints.specs.Walked.{branch_constraints}
use Rattle.constraints.proofs.Added.{added-then}
use Rattle.constraints.proofs.InContext.{gathered-around}
use Rattle.constraints.proofs.Begun.{made-walked}
use Rattle.constraints.proofs.statements.ProcedureWalk.begin_branch.Goals as goal

pub returns-clause-added : goal.returns-clause-added
returns-clause-added c =
    let core = c.args.self.now.table.now.core.now in
    let table = c.args.self.now.table.now.core.now.labels in
    let scope = scope_of core c.args.self.now.procedure in
    let e = expression_of c.args.condition.now in
    let number = c.make-number.result in
    let thrown = c.deref.result.now in
    made-walked c.args.self.now.table.now.core.now c.args.self.now.table.now.core.now.labels (entries_of c.args.self.now.map.now)
    c.args.context.pc c.args.context.exit_unknowns.now thrown 1 number (λ t n named. branch_constraints scope named (exit_unknowns_of c.args.context.exit_unknowns.now t) n e) c.args.progress.now c.make-number.new.self _
    c.make-number.ensures.made c.make-number.ensures.first c.deref.ensures.value refl refl refl refl
    (λ named stands. added-then core table (inner_constraint (named ∷ named_atoms (value_label scope e)) number)
    (raised_flows (named ∷ named_atoms (raise_atoms scope e)) (exit_unknowns_of c.args.context.exit_unknowns.now thrown) (raises e)) _ _ _
    (c.in_ok-add_branch.ensures named stands) (gathered-around core table (λ t n. raised_flows (n ∷ named_atoms (raise_atoms scope e)) t (raises e)) c.around-around.result c.args.context.pc (exit_unknowns_of c.args.context.exit_unknowns.now thrown) _ _
    c.around-around.ensures.pc c.around-around.ensures.exit_unknowns c.in_ok-add_condition.ensures named stands))
