use Rattle.std.proofs.Common.{refl, [], ◌∷◌}
use Rattle.constraints.specs.Ready.{entries_of}
use Rattle.constraints.proofs.Added.{flow-added}
use Rattle.constraints.proofs.Begun.{reached-walked, unreached}
use Rattle.constraints.proofs.statements.ProcedureWalk.end_block.Goals as goal

pub returns-then-not-reached : goal.returns-then-not-reached
returns-then-not-reached c = λ n.
    unreached c.args.self.now.table.now.core.now c.args.self.now.table.now.core.now.labels (entries_of c.args.self.now.map.now)
    c.args.self.now.procedure c.args.reached c.args.context.pc c.args.context.exit_unknowns.now n c.args.progress.now c.if-not-reached.true

pub returns : goal.returns
returns c = λ n.
    let core = c.args.self.now.table.now.core.now in
    let table = c.args.self.now.table.now.core.now.labels in
    reached-walked c.args.self.now.table.now.core.now c.args.self.now.table.now.core.now.labels (entries_of c.args.self.now.map.now)
    c.args.self.now.procedure c.args.reached c.args.context.pc c.args.context.exit_unknowns.now n c.args.progress.now _ c.if-not-reached.false refl refl refl refl
    (λ named stands. flow-added core table (named ∷ []) c.at-exit_unknown.result c.args.context.exit_unknowns.now.ends.normal _ _ c.at-exit_unknown.ensures
    (c.in_ok-add_pc_flow.ensures named stands))
