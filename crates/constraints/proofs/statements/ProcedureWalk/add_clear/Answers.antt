use Rattle.std.proofs.Common.{List, [], ◌∷◌}
use Rattle.resolved.specs.declared.statement.Exit.TheVariants.{Normal}
use Rattle.resolved.specs.declared.target.Target.TheVariants.{ToVariable}
use Rattle.resolved.specs.declared.expression.Variable.TheVariants.{Local}
use Rattle.gathering.specs.Names.{NamedAtom}
use Rattle.gathering.specs.Walk.{flow, rule_constraint}
use Rattle.constraints.specs.ExitUnknowns.{exit_unknowns_around}
use Rattle.constraints.specs.LeftSides.{scope_of}
use Rattle.constraints.proofs.Added.{added-then, alone-left, flow-added}
use Rattle.constraints.proofs.statements.ProcedureWalk.add_clear.Goals as goal

pub returns : goal.returns
returns c = λ n named stands.
    let core = c.args.self.now.table.now.core.now in
    let table = c.args.self.now.table.now.core.now.labels in
    let procedure = c.args.self.now.procedure in
    let scope = scope_of core procedure in
    let exit_unknowns = exit_unknowns_around c.args.around.now in
    let p : List NamedAtom = named ∷ [] in
    added-then core table (rule_constraint scope c.args.at 2 p (ToVariable procedure (Local c.args.slot))) (flow p (exit_unknowns Normal)) _ _ _
    (c.in_ok-add_rule.ensures procedure p (alone-left core table named c.args.around.now.pc c.in_ok-left_of_pc.field-0.items c.in_ok-left_of_pc.ensures stands))
    (flow-added core table p c.exit_unknown-exit_unknown.result (exit_unknowns Normal) _ _ c.exit_unknown-exit_unknown.ensures
    (c.in_ok-add_pc_flow.ensures named stands))
