use Rattle.std.proofs.Common.{◌∙◌, ap}
use Rattle.channels.proofs.Views.{on_err}
use Rattle.listing.specs.Listing.{channel_line}
use Rattle.listing.proofs.Listed.{cut, lines_next, went_on}
use Rattle.listing.proofs.lister.write_channels.Goals as goal

pub returns-in_err-write_all-clause-prefix : goal.returns-in_err-write_all-clause-prefix
returns-in_err-write_all-clause-prefix g c =
    on_err c.from_residual-in_err-write_all.result _
    (cut _ _ _ _ _ _ _
    (lines_next (channel_line c.args.hierarchy.now) c.args.channels.now c.loop-channel.channel-index _ _ c.loop-channel-test.true (c.as_bytes.ensures.value ∙ c.in_ok-line.ensures ∙ ap (channel_line c.args.hierarchy.now) c.channel-item.is))
    c.loop-channel.invariant.listed c.in_err-write_all.ensures.prefix)

pub loop-channel-preserved : goal.loop-channel-preserved
loop-channel-preserved g c = record {
  listed = went_on _ _ _ _ _ _ _
      (lines_next (channel_line c.args.hierarchy.now) c.args.channels.now c.loop-channel.channel-index _ _ c.loop-channel-test.true (c.as_bytes.ensures.value ∙ c.in_ok-line.ensures ∙ ap (channel_line c.args.hierarchy.now) c.channel-item.is))
      c.loop-channel.invariant.listed c.in_ok-write_all.ensures.accepted;
  kept = c.in_ok-write_all.ensures.kept ∙ c.loop-channel.invariant.kept;
}
