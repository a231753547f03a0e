use Rattle.std.proofs.Common.{map, take}
use Rattle.std.specs.Prelude.{ℕ}
use Rattle.resolved.specs.TreeOf.{expression_of}
use Rattle.gathering.specs.Walk.{argument_constraints, inner_atom}
use Rattle.constraints.specs.Added.{AreAdded, IsPart}
use Rattle.constraints.specs.LeftSides.{scope_of}
use Rattle.constraints.proofs.statements.ProcedureWalk.add_arguments.Given as goal

abbrev pub invariant-loop-parameter : goal.invariant-loop-parameter
invariant-loop-parameter l =
    (k : ℕ) → IsPart l.self.table.now.core.now l.self.table.now.core.now.labels (inner_atom k) l.own →
    AreAdded l.self.table.now.core.now l.self.table.now.core.now.labels
    (argument_constraints (scope_of l.self.table.now.core.now l.self.procedure) l.at k l.callee 0 (map expression_of (take l.parameter l.arguments)))
    l.fn.constraints.items l.constraints.items
