use Rattle.std.proofs.Common.{map, take}
use Rattle.resolved.specs.TreeOf.{expression_of}
use Rattle.gathering.specs.Walk.{raise_atoms_all}
use Rattle.constraints.specs.LeftSides.{IsJoined, scope_of}
use Rattle.constraints.proofs.table.Table.add_raise_all.Given as goal

abbrev pub invariant-loop-expression : goal.invariant-loop-expression
invariant-loop-expression l =
    IsJoined l.self.core.now l.self.core.now.labels (raise_atoms_all (scope_of l.self.core.now l.procedure) (map expression_of (take l.expression-index l.expressions)))
    l.fn.left.items l.left.items
