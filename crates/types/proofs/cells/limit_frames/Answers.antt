use Rattle.std.proofs.Common.{◌∙◌, ap}
use Rattle.std.specs.Prelude.{nat_le}
use Rattle.common.specs.declared.fault.OrNoMemory.TheVariants.{Refused}
use Rattle.common.specs.declared.limits.TheConstants.{MAX_CELLS}
use Rattle.types.specs.declared.fault.TypeRefusalKind.TheVariants as refusals
use Rattle.common.specs.declared.refusal.RefusalAt.{RefusalAt}
use Rattle.types.specs.declared.fault.TypeRefusalKind.{TypeRefusalKind}
use Rattle.types.specs.Finding.{require}
use Rattle.types.specs.Views.{cells_of_slots}
use Rattle.types.proofs.Frames.{frame_fits}
use Rattle.types.proofs.Loops.{goes_further, goes_wrong}
use Rattle.types.proofs.cells.limit_frames.Goals as goal

pub returns-then-not-fits : goal.returns-then-not-fits
returns-then-not-fits c =
    let labels = c.args.tables.now.variables.labels in
    let procedure = c.procedure-item.result in
    let refused : (RefusalAt TypeRefusalKind) = record { kind = refusals.TooManyCells; at = procedure.at } in
    goes_wrong c.loop-procedure.invariant procedure (Refused refused) c.procedure-item.is c.loop-procedure-test.true
    (frame_fits labels procedure c.fits.result (c.fits.ensures ∙ ap (λ slots. nat_le (cells_of_slots slots) MAX_CELLS) c.as_slice.ensures.value) ∙ ap (λ test. require test refusals.TooManyCells procedure.at) c.if-not-fits.true)

pub loop-procedure-preserved : goal.loop-procedure-preserved
loop-procedure-preserved c =
    let labels = c.args.tables.now.variables.labels in
    let procedure = c.procedure-item.result in
    goes_further c.loop-procedure.invariant procedure tt c.procedure-item.is c.loop-procedure-test.true
    (frame_fits labels procedure c.fits.result (c.fits.ensures ∙ ap (λ slots. nat_le (cells_of_slots slots) MAX_CELLS) c.as_slice.ensures.value) ∙ ap (λ test. require test refusals.TooManyCells procedure.at) c.if-not-fits.false)
