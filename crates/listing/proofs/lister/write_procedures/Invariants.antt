use Rattle.std.proofs.Common.{◌≡◌, drop}
use Rattle.listing.specs.Listing.{procedures_text}
use Rattle.listing.proofs.Listed.{IsListed}
use Rattle.listing.proofs.lister.write_procedures.Given as goal

-- the texts of the procedures from here on are left, and no write has failed
abbrev pub invariant-loop-number : goal.invariant-loop-number
invariant-loop-number g l = record {
  listed : IsListed (g.O.Sink.taken l.fn.out) (g.O.Sink.taken l.out)
      (procedures_text l.number (drop l.number l.procedures)) (procedures_text 0 l.procedures);
  kept : g.O.Sink.has_failed l.out ≡ g.O.Sink.has_failed l.fn.out;
}
