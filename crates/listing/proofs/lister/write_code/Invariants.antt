use Rattle.std.proofs.Common.{◌≡◌, ◌+◌, drop}
use Rattle.modules.specs.Code.{code_length}
use Rattle.listing.specs.Listing.{code_text}
use Rattle.listing.proofs.Listed.{IsListed}
use Rattle.listing.proofs.lister.write_code.Given as goal

-- the lines of the instructions from here on are left, and as many bytes, and no write has failed
abbrev pub invariant-loop-instruction : goal.invariant-loop-instruction
invariant-loop-instruction g l = record {
  listed : IsListed (g.O.Sink.taken l.fn.out) (g.O.Sink.taken l.out)
      (code_text l.offset (drop l.instruction-index l.code)) (code_text 0 l.code);
  left : l.offset + code_length (drop l.instruction-index l.code) ≡ code_length l.code;
  kept : g.O.Sink.has_failed l.out ≡ g.O.Sink.has_failed l.fn.out;
}
