use Rattle.std.proofs.Common.{◌∙◌}
use Rattle.resolved.specs.CoreOf.{program_of}
use Rattle.explaining.specs.Flow.{step_line}
use Rattle.explaining.proofs.Texts.{cut_at, cut_in}
use Rattle.explaining.proofs.flow.write_steps.Goals as goal
use Rattle.channels.proofs.Views.{on_err}

pub returns-in_err-line-clause-prefix : goal.returns-in_err-line-clause-prefix
returns-in_err-line-clause-prefix g c =
    on_err c.from_residual.result _
    (cut_at (step_line c.args.marked.now.text.now (program_of c.args.core.now)) _ c.args.steps.now c.loop-step.step-index _ c.loop-step.invariant)

pub returns-in_err-write_all-clause-prefix : goal.returns-in_err-write_all-clause-prefix
returns-in_err-write_all-clause-prefix g c =
    on_err c.from_residual-in_err-write_all.result _
    (cut_in (step_line c.args.marked.now.text.now (program_of c.args.core.now)) _ c.args.steps.now c.loop-step.step-index _ _ _ _ c.loop-step-test.true
    (c.as_bytes.ensures.value ∙ c.in_ok-line.ensures) c.loop-step.invariant c.in_err-write_all.ensures.prefix)
