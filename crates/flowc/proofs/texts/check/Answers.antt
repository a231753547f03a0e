use Rattle.flowc.proofs.Settled.{not_accepted}
use Rattle.flowc.proofs.texts.check.Goals as goal
use Rattle.channels.proofs.Views.{on_err}
use Rattle.explaining.proofs.Texts.{cut_first}

pub returns-in_ok-line-in-Err-Refused-clause-rejected : goal.returns-in_ok-line-in-Err-Refused-clause-rejected
returns-in_ok-line-in-Err-Refused-clause-rejected g c = λ one.
    not_accepted _ _ _ _ c.in-Err-Refused.field-0-is c.in-Err-Refused.ensures.rejected

pub returns-in_err-line-in-Err-Refused-clause-prefix : goal.returns-in_err-line-in-Err-Refused-clause-prefix
returns-in_err-line-in-Err-Refused-clause-prefix g c = on_err _ _ (cut_first _ _)
