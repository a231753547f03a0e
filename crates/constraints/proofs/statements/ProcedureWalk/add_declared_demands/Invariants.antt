use Rattle.std.proofs.Common.{◌≡◌, map, take}
use Rattle.resolved.specs.Labelled.{here}
use Rattle.resolved.specs.ProgramOf.{thrown_entry}
use Rattle.gathering.specs.Walk.{thrown_constraints}
use Rattle.constraints.specs.Added.{AreAdded}
use Rattle.constraints.specs.LeftSides.{scope_of}
use Rattle.constraints.specs.Procedures.{number_in}
use Rattle.constraints.proofs.statements.ProcedureWalk.add_declared_demands.Given as goal

abbrev pub invariant-loop-declared : goal.invariant-loop-declared
invariant-loop-declared l =
    l.at ≡ (here (scope_of l.self.table.now.core.now l.self.procedure)).at →
    AreAdded l.self.table.now.core.now l.self.table.now.core.now.labels
    (thrown_constraints (scope_of l.self.table.now.core.now l.self.procedure) (number_in l.thrown) (map (thrown_entry l.self.table.now.core.now.labels) (take l.declared-index l.throws)))
    l.fn.constraints.items l.constraints.items
