use Rattle.gathering.specs.Walk.{inner_atom}
use Rattle.constraints.specs.ExitUnknowns.{exit_unknowns_around}
use Rattle.constraints.proofs.Called.{called-raised}
use Rattle.constraints.proofs.statements.ProcedureWalk.add_argument_exits.Goals as goal

pub returns : goal.returns
returns c = λ k exceptions stands are.
    let core = c.args.self.now.table.now.core.now in
    let table = c.args.self.now.table.now.core.now.labels in
    let procedure = c.args.self.now.procedure in
    called-raised core table c.args.callee k (exit_unknowns_around c.args.around.now) c.args.found exceptions _ _ _ are
    (c.in_ok-add_thrown_if.ensures (inner_atom k) stands) (c.in_ok-add_thrown_if-2.ensures (inner_atom k) stands)
