use Rattle.solver.specs.Links.{InRange}
use Rattle.tests_model.proofs.solving.circle.Given as goal

abbrev pub invariant-written : goal.invariant-written
invariant-written l = record { range : InRange 3 3 l.constraints.items }

abbrev pub invariant-copies : goal.invariant-copies
invariant-copies l = record { range : InRange 3 3 l.constraints.items }
