use Rattle.std.proofs.Common.{refl, map}
use Rattle.resolved.specs.TreeOf.{expression_of}
use Rattle.gathering.specs.Walk.{call_constraints}
use Rattle.constraints.specs.Ready.{entries_of}
use Rattle.constraints.specs.LeftSides.{scope_of}
use Rattle.constraints.specs.ExitUnknowns.{exit_unknowns_of}
use Rattle.constraints.specs.Walks.{kept_call}
use Rattle.constraints.specs.declared.progress.Progress.{Progress}
use Rattle.constraints.proofs.InContext.{gathered-around}
use Rattle.constraints.proofs.Begun.{made-thinned}
use Rattle.constraints.proofs.CallThinned.{call-walked}
use Rattle.constraints.proofs.statements.ProcedureWalk.walk_call.Goals as goal

pub returns : goal.returns
returns c =
    let scope = scope_of c.args.self.now.table.now.core.now c.args.self.now.procedure in
    let new : Progress = record c.make-number.new.self { constraints = c.add_call.new.constraints; journal = c.add_call-2.new.self } in
    made-thinned c.args.self.now.table.now.core.now c.args.self.now.table.now.core.now.labels (entries_of c.args.self.now.map.now)
    c.args.context.pc c.args.context.exit_unknowns.now c.deref.result.now 1 c.make-number.result
    (λ t n named. call_constraints scope named (exit_unknowns_of c.args.context.exit_unknowns.now t) n c.args.site.at c.args.site.callee (map expression_of c.args.arguments.now) c.args.site.target) c.args.progress.now c.make-number.new.self new
    c.make-number.ensures.made c.make-number.ensures.first c.deref.ensures.value refl refl refl
    (λ named stands. call-walked c.args.self.now.table.now.core.now c.args.self.now.table.now.core.now.labels c.args.self.now.procedure named c.args.context.exit_unknowns.now c.deref.result.now
    c.make-number.result c.args.site.at c.args.site.callee (map expression_of c.args.arguments.now) c.args.site.target c.make-number.new.self new c.deref.ensures.value refl
    (gathered-around c.args.self.now.table.now.core.now c.args.self.now.table.now.core.now.labels
    (λ t n. kept_call scope n t c.make-number.result c.args.site.at c.args.site.callee (map expression_of c.args.arguments.now) c.args.site.target)
    c.around-around.result c.args.context.pc (exit_unknowns_of c.args.context.exit_unknowns.now c.deref.result.now) _ _ c.around-around.ensures.pc c.around-around.ensures.exit_unknowns c.in_ok-add_call.ensures named stands) c.in_ok-add_call-2.ensures.calls c.in_ok-add_call-2.ensures.moments)
