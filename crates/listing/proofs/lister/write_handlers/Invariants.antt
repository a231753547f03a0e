use Rattle.std.proofs.Common.{◌≡◌, drop}
use Rattle.std.specs.Prelude.{flat_map}
use Rattle.listing.specs.Listing.{handler_line}
use Rattle.listing.proofs.Listed.{IsListed}
use Rattle.listing.proofs.lister.write_handlers.Given as goal

-- the lines of the handlers from here on are left, and no write has failed
abbrev pub invariant-loop-handler : goal.invariant-loop-handler
invariant-loop-handler g l = record {
  listed : IsListed (g.O.Sink.taken l.fn.out) (g.O.Sink.taken l.out)
      (flat_map handler_line (drop l.handler-index l.handlers)) (flat_map handler_line l.handlers);
  kept : g.O.Sink.has_failed l.out ≡ g.O.Sink.has_failed l.fn.out;
}
