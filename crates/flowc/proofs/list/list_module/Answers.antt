use Rattle.flowc.proofs.Listed.{listed_some}
use Rattle.flowc.proofs.list.list_module.Goals as goal
use Rattle.channels.proofs.Views.{on_err}

pub returns-in_err-write_listing-clause-prefix : goal.returns-in_err-write_listing-clause-prefix
returns-in_err-write_listing-clause-prefix g c =
    on_err _ _ (listed_some _ c.in_ok-verified.verified c.module.result.now _ _ c.in_ok-verified.ensures.accepted.spelled c.in_ok-verified.ensures.accepted.not_refused c.module.ensures.value
    c.in_err-write_listing.ensures.prefix)
