use Rattle.constraints.specs.ExitUnknowns.{exit_unknowns_around}
use Rattle.gathering.specs.Walk.{flow, raised_flows}
use Rattle.constraints.proofs.Added.{added-then, flow-added}
use Rattle.constraints.proofs.statements.ProcedureWalk.add_exits.Goals as goal

pub returns : goal.returns
returns c = λ atoms exceptions left are.
    let core = c.args.self.now.table.now.core.now in
    let table = c.args.self.now.table.now.core.now.labels in
    let exit_unknowns = exit_unknowns_around c.args.around.now in
    added-then core table (flow atoms (exit_unknowns c.args.exit)) (raised_flows atoms exit_unknowns exceptions) _ _ _
    (flow-added core table atoms c.exit_unknown-exit_unknown.result (exit_unknowns c.args.exit) _ _ c.exit_unknown-exit_unknown.ensures (c.in_ok-add_flow.ensures atoms left))
    (c.in_ok-add_raised.ensures atoms exceptions left are)
