use Rattle.std.proofs.Common.{refl, sym}
use Rattle.std.proofs.lemmas.Result.{on_err_weaker}
use Rattle.channels.proofs.Views.{on_err}
use Rattle.modules.proofs.Widths.{all_short}
use Rattle.channels.proofs.Sinks.{cut_front}
use Rattle.listing.proofs.Listed.{cut_second}
use Rattle.listing.proofs.lister.write_listing.Goals as goal

pub returns-in_err-write_channels-clause-prefix : goal.returns-in_err-write_channels-clause-prefix
returns-in_err-write_channels-clause-prefix g c =
    rw (sym c.hierarchy.ensures.hierarchy, sym c.channels.ensures)
    (on_err c.from_residual.result _ (cut_front _ _ _ _ _ refl c.in_err-write_channels.ensures.prefix))

pub write_procedures-requires : goal.write_procedures-requires
write_procedures-requires g c = rw c.procedures.ensures.procedures (all_short c.args.program.now c.procedures.ensures.spelled)

pub returns-clause-prefix : goal.returns-clause-prefix
returns-clause-prefix g c = on_err_weaker c.write_procedures.result
    (λ part. rw (sym c.hierarchy.ensures.hierarchy, sym c.channels.ensures, sym c.procedures.ensures.procedures)
    (cut_second _ _ _ _ _ _ refl c.in_ok-write_channels.ensures.accepted part)) c.write_procedures.ensures.prefix
