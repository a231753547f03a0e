use Rattle.std.proofs.Common.{take}
use Rattle.std.specs.Io.KnownBytes.{Appends}
use Rattle.std.specs.Prelude.{flat_map}
use Rattle.resolved.specs.CoreOf.{program_of}
use Rattle.explaining.specs.Flow.{step_line}
use Rattle.explaining.proofs.flow.write_steps.Given as goal

-- the lines of the steps so far are written
abbrev pub invariant-loop-step : goal.invariant-loop-step
invariant-loop-step g l =
    Appends (g.O.Sink.taken l.fn.out) (g.O.Sink.taken l.out)
    (flat_map (step_line l.marked.text.now (program_of l.core)) (take l.step-index l.steps))
