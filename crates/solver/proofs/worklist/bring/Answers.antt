use Rattle.std.proofs.Common.{subst, List, Bool}
use Rattle.std.specs.Prelude.{IfOk}
use Rattle.solver.specs.Work.{IsBrought}
use Rattle.solver.proofs.worklist.bring.Goals as goal

pub returns : goal.returns
returns c =
    subst (λ (rows : List (List Bool)). IfOk c.bring_all.result (IsBrought rows c.args.count c.args.unknown c.args.left.now c.bring_all.new.rows))
    (c.take_over.ensures.kept c.if-take_over.false) c.bring_all.ensures
