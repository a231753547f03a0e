use Rattle.std.proofs.Common.{refl, ap, ◌+◌}
use Rattle.resolved.specs.TreeOf.{expression_of}
use Rattle.constraints.specs.Ready.{entries_of}
use Rattle.constraints.specs.LeftSides.{scope_of}
use Rattle.constraints.specs.ExitUnknowns.{exit_unknowns_of}
use Rattle.constraints.specs.Walks.{loop_head_constraints}
use Rattle.constraints.proofs.InContext.{gathered-around}
use Rattle.constraints.proofs.Begun.{made-walked}
use Rattle.constraints.proofs.statements.ProcedureWalk.begin_loop.Goals as goal

pub returns-clause-back : goal.returns-clause-back
returns-clause-back c = ap (λ n. n + 1) c.make-inner.ensures.first

pub returns-clause-added : goal.returns-clause-added
returns-clause-added c =
    let scope = scope_of c.args.self.now.table.now.core.now c.args.self.now.procedure in
    let e = expression_of c.args.condition.now in
    made-walked c.args.self.now.table.now.core.now c.args.self.now.table.now.core.now.labels (entries_of c.args.self.now.map.now)
    c.args.context.pc c.args.context.exit_unknowns.now c.deref.result.now 2 c.make-inner.result (λ t n named. loop_head_constraints scope named (exit_unknowns_of c.args.context.exit_unknowns.now t) n c.args.site.at c.args.site.number e) c.args.progress.now c.make-inner.new.self _
    c.make-inner.ensures.made c.make-inner.ensures.first c.deref.ensures.value refl refl refl refl
    (gathered-around c.args.self.now.table.now.core.now c.args.self.now.table.now.core.now.labels (λ t named. loop_head_constraints scope named t c.make-inner.result c.args.site.at c.args.site.number e)
    c.around-around.result c.args.context.pc (exit_unknowns_of c.args.context.exit_unknowns.now c.deref.result.now) _ _ c.around-around.ensures.pc c.around-around.ensures.exit_unknowns c.in_ok-add_loop_head.ensures)
