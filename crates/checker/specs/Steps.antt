-- Private: what is reported of the constraints of a chain, and of a program that the solver refuses.
-- Source: our own.
use Rattle.std.specs.Prelude.{◌≡◌, ℕ, List, [], ◌∷◌, Option, Some, None, slice_get}
use Rattle.lattices.specs.Constraints.{report_some}
use Rattle.resolved.specs.declared.target.Target.{Target}
use Rattle.resolved.specs.declared.program.Core.{Core}
use Rattle.resolved.specs.Flow.{ReportedStep, reported_step}
use Rattle.solver.specs.declared.constraints.Constraint.{Constraint}
use Rattle.solver.specs.Rule.{rule_number}
use Rattle.checker.specs.Reported.{ReportsFlow, reported_by}
use Rattle.checker.specs.declared.fault.RefusedFlow.{RefusedFlow}
use Rattle.checker.specs.declared.fault.Step.{Step}

abbrev pub reported_of : Option Step → List ReportedStep
reported_of None = []
reported_of (Some step) = reported_by step ∷ []

-- what is reported of the constraint at an index
abbrev pub report_of : Option (Constraint (Option Target)) → List ReportedStep
report_of None = []
report_of (Some c) = report_some reported_step c.at (rule_number c.rule) c.target

abbrev pub report_at : List (Constraint (Option Target)) → ℕ → List ReportedStep
report_at constraints index = report_of (slice_get constraints index)

-- a program without a fault of its exits is refused for a flow
abbrev pub RefusesProgram : Core → RefusedFlow → Type 0
RefusesProgram core flow = (flow.core ≡ core) × ReportsFlow flow
