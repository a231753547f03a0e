use Rattle.flowc.proofs.Settled.{not_accepted}
use Rattle.flowc.proofs.texts.build.Goals as goal

pub returns-in_ok-line-in-Err-Refused-clause-rejected : goal.returns-in_ok-line-in-Err-Refused-clause-rejected
returns-in_ok-line-in-Err-Refused-clause-rejected c = λ one.
    not_accepted _ _ _ _ c.in-Err-Refused.field-0-is c.in-Err-Refused.ensures.rejected
