use Rattle.std.proofs.Common.{sym, ap, ◌∙◌, List, [], ◌∷◌}
use Rattle.resolved.specs.Exits.{one_exit}
use Rattle.gathering.specs.Names.{NamedAtom}
use Rattle.gathering.specs.Walk.{flow, single}
use Rattle.constraints.specs.ExitUnknowns.{exit_unknowns_around}
use Rattle.constraints.proofs.Added.{added-none, added-same, flow-added}
use Rattle.constraints.proofs.Branched.{single-is, single_flow}
use Rattle.constraints.proofs.statements.ProcedureWalk.add_single.Goals as goal

pub returns-in-None : goal.returns-in-None
returns-in-None c = λ ends are named stands.
    let core = c.args.self.now.table.now.core.now in
    let table = c.args.self.now.table.now.core.now.labels in
    let procedure = c.args.self.now.procedure in
    let exit_unknowns = exit_unknowns_around c.args.around.now in
    added-same core table (single (one_exit ends) named exit_unknowns ends) [] _ _
    (single-is ends named exit_unknowns ∙ ap (single_flow named exit_unknowns) (sym (c.single.ensures ends are) ∙ c.in-None.is)) (added-none core table _)

pub returns-in_ok-add_pc_flow-in-Some : goal.returns-in_ok-add_pc_flow-in-Some
returns-in_ok-add_pc_flow-in-Some c = λ ends are named stands.
    let core = c.args.self.now.table.now.core.now in
    let table = c.args.self.now.table.now.core.now.labels in
    let procedure = c.args.self.now.procedure in
    let exit_unknowns = exit_unknowns_around c.args.around.now in
    let q : List NamedAtom = named ∷ [] in
    added-same core table (single (one_exit ends) named exit_unknowns ends) (flow q (exit_unknowns c.in-Some.exit)) _ _
    (single-is ends named exit_unknowns ∙ ap (single_flow named exit_unknowns) (sym (c.single.ensures ends are) ∙ c.in-Some.is))
    (flow-added core table q c.exit_unknown-exit_unknown.result (exit_unknowns c.in-Some.exit) _ _ c.exit_unknown-exit_unknown.ensures
    (c.in_ok-add_pc_flow-in-Some.ensures named stands))
