use Rattle.resolved.specs.Program.{GlobalEntry}
use Rattle.resolved.specs.ProgramOf.{global_entry}
use Rattle.lowering.specs.Fitting.{IsShortValue}
use Rattle.lowering.specs.Interface.{global_contents}
use Rattle.lowering.proofs.Lists.{made_more, held_more}
use Rattle.lowering.proofs.interface.globals_of.Goals as goal

pub loop-variable-preserved : goal.loop-variable-preserved
loop-variable-preserved c = λ labels. (
  made_more (global_entry labels) global_contents c.args.globals.now c.loop-variable.made.items c.push.new.self.items c.loop-variable.variable-index c.variable-item.result c.declared_global.result
      c.loop-variable-test.true c.variable-item.is c.in_ok-push.ensures.items (c.loop-variable.invariant labels).0 c.declared_global.ensures.exact,
  held_more (global_entry labels) (λ (entry : GlobalEntry). IsShortValue entry.first) c.args.globals.now c.loop-variable.variable-index c.variable-item.result
      c.loop-variable-test.true c.variable-item.is (c.loop-variable.invariant labels).1 c.declared_global.ensures.short,
)
