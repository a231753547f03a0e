use Rattle.flowc.proofs.Settled.{not_accepted}
use Rattle.flowc.specs.Explained.ExplainsSome.{labels}
use Rattle.flowc.proofs.explain.explain.Goals as goal
use Rattle.channels.proofs.Views.{on_err}

pub returns-in_ok-write_labels-in-Ok-clause-stdout : goal.returns-in_ok-write_labels-in-Ok-clause-stdout
returns-in_ok-write_labels-in-Ok-clause-stdout g c =
    (c.in-Ok.checked, record { stands = c.in-Ok.ensures.accepted; least = c.in-Ok.ensures.least }, c.in_ok-write_labels-in-Ok.ensures.accepted)

pub returns-in_err-write_labels-in-Ok-clause-prefix : goal.returns-in_err-write_labels-in-Ok-clause-prefix
returns-in_err-write_labels-in-Ok-clause-prefix g c =
    on_err _ _ (labels c.in-Ok.checked (record { stands = c.in-Ok.ensures.accepted; least = c.in-Ok.ensures.least })
    c.in_err-write_labels-in-Ok.ensures.prefix)

pub returns-in_ok-line-in-Err-Refused-clause-rejected : goal.returns-in_ok-line-in-Err-Refused-clause-rejected
returns-in_ok-line-in-Err-Refused-clause-rejected g c = λ one.
    not_accepted _ _ _ _ c.in-Err-Refused.field-0-is c.in-Err-Refused.ensures.rejected

pub returns-in_err-line-in-Err-Refused-clause-prefix : goal.returns-in_err-line-in-Err-Refused-clause-prefix
returns-in_err-line-in-Err-Refused-clause-prefix g c = on_err _ _ c.in_err-line-in-Err-Refused.ensures.prefix
