use Rattle.flowc.proofs.Refusals.{viewed_own}
use Rattle.flowc.proofs.running.show.Goals as goal

pub returns-in-None-clause-prefix : goal.returns-in-None-clause-prefix
returns-in-None-clause-prefix g c =
    viewed_own c.write_view.result c.args.larger.now c.args.machine.now.program c.module-program.result.now _ _ _ _ _ c.in-None.is c.module-program.ensures
    c.sent-sent.ensures c.write_view.ensures.prefix
