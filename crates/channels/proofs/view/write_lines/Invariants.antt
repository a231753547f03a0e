use Rattle.std.proofs.Common.{◌≡◌, take}
use Rattle.channels.proofs.Views.{IsHeld}
use Rattle.channels.proofs.view.write_lines.Given as goal

-- the text of the pairs so far is written up to the lines that are held back, and no write has failed
abbrev pub invariant-loop-pair : goal.invariant-loop-pair
invariant-loop-pair g l = record {
  held : IsHeld l.observer.hierarchy.now l.observer.program.now l.observer.principal (take l.pair-index l.pairs) l.lines.items (g.S.Sink.taken l.fn.out) (g.S.Sink.taken l.out);
  kept : g.S.Sink.has_failed l.out ≡ g.S.Sink.has_failed l.fn.out;
}
