use Rattle.std.proofs.Common.{◌≡◌, map, take}
use Rattle.std.specs.Prelude.{flat_map}
use Rattle.checker.specs.Reported.{reported_by}
use Rattle.checker.specs.Steps.{report_at}
use Rattle.checker.proofs.flow.steps_of.Given as goal

abbrev pub invariant-loop-index : goal.invariant-loop-index
invariant-loop-index l = map reported_by l.steps.items ≡ flat_map (report_at l.constraints) (take l.index-index l.chain)
