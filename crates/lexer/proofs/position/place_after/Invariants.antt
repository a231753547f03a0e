use Rattle.std.proofs.Common.{◌≡◌, ◌+◌}
use Rattle.lexer.specs.Position.{place_at}
use Rattle.lexer.proofs.position.place_after.Given as goal

abbrev pub invariant-loop-byte : goal.invariant-loop-byte
invariant-loop-byte l = l.place ≡ place_at l.text (l.from + l.byte-index)
