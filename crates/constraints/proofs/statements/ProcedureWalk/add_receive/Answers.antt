use Rattle.std.proofs.Common.{List, [], ◌∷◌, ◌++◌}
use Rattle.resolved.specs.declared.statement.Exit.TheVariants.{Normal, Throw}
use Rattle.resolved.specs.declared.target.Target.TheVariants.{ToChannel}
use Rattle.resolved.specs.CoreOf.{program_of}
use Rattle.resolved.specs.Labelled.{one, label_of}
use Rattle.gathering.specs.Names.{NamedAtom, named_atoms}
use Rattle.gathering.specs.Walk.{flow, rule_constraint, target_constraint}
use Rattle.constraints.specs.ExitUnknowns.{exit_unknowns_around}
use Rattle.constraints.specs.LeftSides.{scope_of}
use Rattle.constraints.proofs.Added.{added-then, alone-left, left-same, flow-added}
use Rattle.constraints.proofs.statements.ProcedureWalk.add_receive.Goals as goal

pub returns : goal.returns
returns c = λ n named stands.
    let core = c.args.self.now.table.now.core.now in
    let table = c.args.self.now.table.now.core.now.labels in
    let procedure = c.args.self.now.procedure in
    let scope = scope_of core procedure in
    let exit_unknowns = exit_unknowns_around c.args.around.now in
    let p : List NamedAtom = named ∷ [] in
    let q : List NamedAtom = named ∷ named_atoms (one (label_of (program_of core) (ToChannel c.args.channel))) in
    added-then core table (rule_constraint scope c.args.at 4 p (ToChannel c.args.channel)) (target_constraint scope c.args.at 4 q c.args.target ++ (flow q (exit_unknowns Normal) ++ flow q (exit_unknowns (Throw 2)))) _ _ _
    (c.in_ok-add_rule.ensures procedure p (alone-left core table named c.args.around.now.pc c.in_ok-left_of_pc.field-0.items c.in_ok-left_of_pc.ensures stands))
    (added-then core table (target_constraint scope c.args.at 4 q c.args.target) (flow q (exit_unknowns Normal) ++ flow q (exit_unknowns (Throw 2))) _ _ _
    (c.in_ok-add_target.ensures q (c.in_ok-received.ensures named stands))
    (added-then core table (flow q (exit_unknowns Normal)) (flow q (exit_unknowns (Throw 2))) _ _ _
    (flow-added core table q c.exit_unknown-normal.result (exit_unknowns Normal) _ _ c.exit_unknown-normal.ensures
    (c.in_ok-add_flow.ensures q (left-same core table q c.in_ok-left.left.items c.deref.result.now c.deref.ensures (c.in_ok-left.ensures named stands))))
    (flow-added core table q c.exit_unknown-ended.result (exit_unknowns (Throw 2)) _ _ c.exit_unknown-ended.ensures
    (c.in_ok-add_flow-2.ensures q (left-same core table q c.in_ok-left.left.items c.deref-2.result.now c.deref-2.ensures (c.in_ok-left.ensures named stands))))))
