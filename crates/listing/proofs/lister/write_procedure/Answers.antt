use Rattle.std.proofs.Common.{◌∙◌, ◌++◌, ap, refl, sym}
use Rattle.std.proofs.KnownBytes.{Appends-trans}
use Rattle.std.proofs.lemmas.Result.{on_err_weaker}
use Rattle.channels.proofs.Views.{on_err}
use Rattle.channels.proofs.Sinks.{cut_front}
use Rattle.listing.specs.Listing.{code_text}
use Rattle.listing.proofs.Listed.{cut_second}
use Rattle.listing.proofs.lister.write_procedure.Goals as goal

pub returns-in_err-write_all-clause-prefix : goal.returns-in_err-write_all-clause-prefix
returns-in_err-write_all-clause-prefix g c =
    on_err c.from_residual-in_err-write_all.result _
    (cut_front _ _ _ _ _ refl (cut_front _ _ _ _ _ (c.as_bytes.ensures.value ∙ c.in_ok-line.ensures) c.in_err-write_all.ensures.prefix))

pub returns-in_err-write_code-clause-prefix : goal.returns-in_err-write_code-clause-prefix
returns-in_err-write_code-clause-prefix g c =
    rw (sym c.code.ensures)
    (on_err c.from_residual-in_err-write_code.result _
    (cut_front _ _ _ _ _ refl
    (cut_second _ _ _ _ _ _ (c.as_bytes.ensures.value ∙ c.in_ok-line.ensures) c.in_ok-write_all.ensures.accepted c.in_err-write_code.ensures.prefix)))

pub returns-clause-prefix : goal.returns-clause-prefix
returns-clause-prefix g c =
    on_err_weaker c.write_handlers.result
    (λ part. rw (sym c.code.ensures, sym c.handlers.ensures)
    (cut_second _ _ _ _ _ _ (ap (λ line. line ++ code_text 0 c.code.result.now) (c.as_bytes.ensures.value ∙ c.in_ok-line.ensures))
    (Appends-trans _ _ _ _ _ c.in_ok-write_all.ensures.accepted c.in_ok-write_code.ensures.accepted) part))
    c.write_handlers.ensures.prefix
