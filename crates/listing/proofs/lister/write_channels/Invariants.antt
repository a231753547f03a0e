use Rattle.std.proofs.Common.{◌≡◌, drop}
use Rattle.std.specs.Prelude.{flat_map}
use Rattle.listing.specs.Listing.{channel_line}
use Rattle.listing.proofs.Listed.{IsListed}
use Rattle.listing.proofs.lister.write_channels.Given as goal

-- the lines of the channels from here on are left, and no write has failed
abbrev pub invariant-loop-channel : goal.invariant-loop-channel
invariant-loop-channel g l = record {
  listed : IsListed (g.O.Sink.taken l.fn.out) (g.O.Sink.taken l.out)
      (flat_map (channel_line l.hierarchy) (drop l.channel-index l.channels))
      (flat_map (channel_line l.hierarchy) l.channels);
  kept : g.O.Sink.has_failed l.out ≡ g.O.Sink.has_failed l.fn.out;
}
