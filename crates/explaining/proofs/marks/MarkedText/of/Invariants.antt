use Rattle.std.proofs.Common.{◌≡◌, ◌+◌, ◌*◌, map}
use Rattle.std.specs.List.{range_with_len}
use Rattle.lexer.specs.Position.{place_at}
use Rattle.explaining.proofs.marks.MarkedText.of.Given as goal

-- the marks so far, the last of which is at the place
abbrev pub invariant-loop-mark : goal.invariant-loop-mark
invariant-loop-mark l = record {
  place : l.place ≡ place_at l.text (l.mark * 256);
  marks : l.marks.items ≡ map (λ mark. place_at l.text (mark * 256)) (range_with_len 0 (l.mark + 1));
}
