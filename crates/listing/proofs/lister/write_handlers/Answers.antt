use Rattle.std.proofs.Common.{◌∙◌}
use Rattle.channels.proofs.Views.{on_err}
use Rattle.listing.specs.Listing.{handler_line}
use Rattle.listing.proofs.Listed.{cut, lines_next, went_on}
use Rattle.listing.proofs.lister.write_handlers.Goals as goal

pub returns-in_err-write_all-clause-prefix : goal.returns-in_err-write_all-clause-prefix
returns-in_err-write_all-clause-prefix g c =
    on_err c.from_residual-in_err-write_all.result _
    (cut _ _ _ _ _ _ _
    (lines_next handler_line c.args.handlers.now c.loop-handler.handler-index _ _ c.loop-handler-test.true (c.as_bytes.ensures.value ∙ c.in_ok-line.ensures))
    c.loop-handler.invariant.listed c.in_err-write_all.ensures.prefix)

pub loop-handler-preserved : goal.loop-handler-preserved
loop-handler-preserved g c = record {
  listed = went_on _ _ _ _ _ _ _
      (lines_next handler_line c.args.handlers.now c.loop-handler.handler-index _ _ c.loop-handler-test.true (c.as_bytes.ensures.value ∙ c.in_ok-line.ensures))
      c.loop-handler.invariant.listed c.in_ok-write_all.ensures.accepted;
  kept = c.in_ok-write_all.ensures.kept ∙ c.loop-handler.invariant.kept;
}
