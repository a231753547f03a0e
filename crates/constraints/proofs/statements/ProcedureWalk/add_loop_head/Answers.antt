use Rattle.std.proofs.Common.{List, [], ◌∷◌, ◌++◌, refl}
use Rattle.lattices.specs.Constraints.{renamed}
use Rattle.resolved.specs.CoreOf.{program_of}
use Rattle.resolved.specs.Exits.{raises}
use Rattle.resolved.specs.Labelled.{label_of, value_label}
use Rattle.resolved.specs.TreeOf.{expression_of}
use Rattle.resolved.specs.declared.statement.Exit.TheVariants.{Normal}
use Rattle.resolved.specs.declared.target.Target.TheVariants.{ToLoop}
use Rattle.gathering.specs.Names.{NamedAtom, Real, named_atoms}
use Rattle.gathering.specs.Walk.{flow, inner_atom, inner_constraint, raise_atoms, raised_flows, rule_constraint}
use Rattle.constraints.specs.LeftSides.{scope_of}
use Rattle.constraints.specs.ExitUnknowns.{exit_unknowns_around}
use Rattle.constraints.proofs.Added.{added-then, flow-added}
use Rattle.constraints.proofs.statements.ProcedureWalk.add_loop_head.Goals as goal

pub returns : goal.returns
returns c = λ named stands.
    let core = c.args.self.now.table.now.core.now in
    let table = c.args.self.now.table.now.core.now.labels in
    let procedure = c.args.self.now.procedure in
    let scope = scope_of core procedure in
    let e = expression_of c.args.condition.now in
    let exit_unknowns = exit_unknowns_around c.args.around.now in
    let loop_atom : NamedAtom = renamed Real (label_of (program_of core) (ToLoop procedure c.args.site.number)) in
    let body : List NamedAtom = inner_atom c.args.inner ∷ [] in
    let raised = raised_flows (loop_atom ∷ named_atoms (raise_atoms scope e)) exit_unknowns (raises e) in
    let leaving = flow body (exit_unknowns Normal) in
    let branch = inner_constraint (loop_atom ∷ named_atoms (value_label scope e)) c.args.inner in
    added-then core table (rule_constraint scope c.args.site.at 8 (named ∷ []) (ToLoop procedure c.args.site.number)) (branch ++ (leaving ++ raised)) _ _ _ (c.in_ok-add_turn.ensures named stands)
    (added-then core table branch (leaving ++ raised) _ _ _ (c.in_ok-add_branch.ensures loop_atom c.part-loop_atom.ensures)
    (added-then core table leaving raised _ _ _
    (flow-added core table body c.exit_unknown-exit_unknown.result (exit_unknowns Normal) _ _ c.exit_unknown-exit_unknown.ensures
    (c.in_ok-add_pc_flow.ensures (inner_atom c.args.inner) refl))
    (c.in_ok-add_condition.ensures loop_atom c.part-loop_atom.ensures)))
