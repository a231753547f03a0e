use Rattle.constraints.specs.ExitUnknowns.{exit_unknowns_around}
use Rattle.constraints.proofs.Added.{raised-added}
use Rattle.constraints.proofs.table.Table.add_raised.Goals as goal

pub returns : goal.returns
returns c = λ atoms exceptions left are.
    raised-added c.args.self.now.core.now c.args.self.now.core.now.labels atoms (exit_unknowns_around c.args.around.now) c.args.found exceptions c.exit_unknown-arith.result c.exit_unknown-bounds.result _ _ _
    are c.exit_unknown-arith.ensures c.exit_unknown-bounds.ensures (c.in_ok-add_flow_if.ensures atoms left) (c.in_ok-add_flow_if-2.ensures atoms left)
