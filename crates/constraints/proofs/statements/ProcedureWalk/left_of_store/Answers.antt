use Rattle.std.proofs.Common.{◌++◌}
use Rattle.gathering.specs.Walk.{raise_atoms}
use Rattle.resolved.specs.TreeOf.{expression_of}
use Rattle.constraints.specs.LeftSides.{scope_of, index_atoms}
use Rattle.constraints.proofs.Joined.{joined-then, left-from}
use Rattle.constraints.proofs.statements.ProcedureWalk.left_of_store.Goals as goal

pub returns : goal.returns
returns c =
    let core = c.args.self.now.table.now.core.now in
    let table = c.args.self.now.table.now.core.now.labels in
    let scope = scope_of core c.args.self.now.procedure in
    let first = index_atoms scope c.args.length (expression_of c.args.index.now) in
    let second = raise_atoms scope (expression_of c.args.value.now) in
    left-from core table c.args.pc (first ++ second) _ _ c.in_ok-left.ensures
    (joined-then core table first second _ _ _ c.in_ok-add_index.ensures c.in_ok-add_raise.ensures.joined)
