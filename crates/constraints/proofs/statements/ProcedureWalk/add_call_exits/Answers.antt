use Rattle.std.specs.Prelude.{flat_map}
use Rattle.std.proofs.Common.{List, ◌∷◌, map}
use Rattle.resolved.specs.CoreOf.{program_of}
use Rattle.resolved.specs.Exits.{raises, thrown_exits}
use Rattle.resolved.specs.TreeOf.{expression_of}
use Rattle.resolved.specs.declared.statement.Exit.TheVariants.{Normal}
use Rattle.gathering.specs.Names.{NamedAtom, named_atoms}
use Rattle.gathering.specs.Walk.{call_atoms, call_flows, flow, inner_atom, raised_once}
use Rattle.constraints.specs.ExitUnknowns.{exit_unknowns_around}
use Rattle.constraints.proofs.Added.{added-then, flow-added, left-same}
use Rattle.constraints.proofs.statements.ProcedureWalk.add_call_exits.Goals as goal

pub returns : goal.returns
returns c = λ k stands.
    let core = c.args.self.now.table.now.core.now in
    let table = c.args.self.now.table.now.core.now.labels in
    let procedure = c.args.self.now.procedure in
    let program = program_of core in
    let exit_unknowns = exit_unknowns_around c.args.around.now in
    let q : List NamedAtom = inner_atom k ∷ named_atoms (call_atoms program c.args.callee Normal) in
    let raised = flat_map raises (map expression_of c.args.arguments.now) in
    added-then core table (flow q (exit_unknowns Normal)) (call_flows program c.args.callee k exit_unknowns (thrown_exits (raised_once raised))) _ _ _
    (flow-added core table q c.exit_unknown-normal.result (exit_unknowns Normal) _ _ c.exit_unknown-normal.ensures
    (c.in_ok-add_flow.ensures q (left-same core table q c.in_ok-left.left.items c.deref.result.now c.deref.ensures (c.in_ok-left.ensures (inner_atom k) stands))))
    (c.in_ok-add_argument_exits.ensures k raised stands c.raises_of_all-found.ensures)
