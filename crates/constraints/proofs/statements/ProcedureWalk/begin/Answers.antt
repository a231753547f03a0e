use Rattle.std.proofs.Common.{refl, sym, ◌∙◌}
use Rattle.common.proofs.Cases.{same_heads}
use Rattle.resolved.specs.Exits.{one_exit}
use Rattle.gathering.specs.Walk.{single}
use Rattle.constraints.specs.Ready.{entries_of}
use Rattle.constraints.specs.ExitUnknowns.{exit_unknowns_of}
use Rattle.constraints.proofs.InContext.{gathered-around}
use Rattle.constraints.proofs.Begun.{begun}
use Rattle.constraints.proofs.statements.ProcedureWalk.begin.Goals as goal

pub returns-clause-exits : goal.returns-clause-exits
returns-clause-exits c = λ first left before. same_heads c.next_exits-exits.result first _ left (sym c.next_exits-exits.ensures.found ∙ before)

pub returns-clause-added : goal.returns-clause-added
returns-clause-added c = λ ends.
    begun c.args.self.now.table.now.core.now c.args.self.now.table.now.core.now.labels (entries_of c.args.self.now.map.now)
    c.args.context.pc c.args.context.exit_unknowns.now c.next_exits-exits.result c.deref.result.now ends c.args.progress.now c.next_exits-exits.new.progress _
    c.next_exits-exits.ensures.found c.next_exits-exits.ensures.others c.deref.ensures.value refl refl refl refl (λ kept. gathered-around c.args.self.now.table.now.core.now c.args.self.now.table.now.core.now.labels (λ t named. single (one_exit ends) named t ends)
    c.around-around.result c.args.context.pc (exit_unknowns_of c.args.context.exit_unknowns.now c.deref.result.now) _ _ c.around-around.ensures.pc c.around-around.ensures.exit_unknowns (c.in_ok-add_single.ensures ends kept))
