use Rattle.std.proofs.Common.{◌∙◌, ap}
use Rattle.std.specs.Prelude.{flat_map}
use Rattle.resolved.specs.CoreOf.{program_of}
use Rattle.explaining.specs.Flow.{policy_line, step_line}
use Rattle.explaining.proofs.Texts.{all_or_none, cut_first, part_or_none}
use Rattle.explaining.proofs.flow.write_flow.Goals as goal
use Rattle.channels.proofs.Views.{on_err}
use Rattle.channels.proofs.Sinks.{cut_front}

pub returns-in_err-line-clause-prefix : goal.returns-in_err-line-clause-prefix
returns-in_err-line-clause-prefix g c = on_err c.from_residual-in_err-line.result _ (cut_first _ _)

pub returns-in_err-write_all-clause-prefix : goal.returns-in_err-write_all-clause-prefix
returns-in_err-write_all-clause-prefix g c =
    let flow = c.args.flow.now in
    on_err c.from_residual-in_err-write_all.result _
    (cut_front _ _ (policy_line flow.core.hierarchy flow.policy) (flat_map (step_line c.args.source.now (program_of flow.core)) flow.steps.items)
    _ (c.as_bytes.ensures.value ∙ c.in_ok-line.ensures) c.in_err-write_all.ensures.prefix)

pub returns-clause-accepted : goal.returns-clause-accepted
returns-clause-accepted g c =
    let flow = c.args.flow.now in
    all_or_none _ _ _ (policy_line flow.core.hierarchy flow.policy) (flat_map (step_line c.args.source.now (program_of flow.core)) flow.steps.items)
    _ _ c.write_steps.result (c.as_bytes.ensures.value ∙ c.in_ok-line.ensures)
    (ap (λ text. flat_map (step_line text (program_of flow.core)) c.as_slice.result.now) c.in_ok-marked.ensures
    ∙ ap (flat_map (step_line c.args.source.now (program_of flow.core))) c.as_slice.ensures.value)
    c.in_ok-write_all.ensures.accepted c.write_steps.ensures.accepted

pub returns-clause-prefix : goal.returns-clause-prefix
returns-clause-prefix g c =
    let flow = c.args.flow.now in
    part_or_none _ _ _ (policy_line flow.core.hierarchy flow.policy) (flat_map (step_line c.args.source.now (program_of flow.core)) flow.steps.items)
    _ _ c.write_steps.result (c.as_bytes.ensures.value ∙ c.in_ok-line.ensures)
    (ap (λ text. flat_map (step_line text (program_of flow.core)) c.as_slice.result.now) c.in_ok-marked.ensures
    ∙ ap (flat_map (step_line c.args.source.now (program_of flow.core))) c.as_slice.ensures.value)
    c.in_ok-write_all.ensures.accepted c.write_steps.ensures.prefix
