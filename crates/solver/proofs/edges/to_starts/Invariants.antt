use Rattle.std.proofs.Common.{◌≡◌, ◌++◌, drop, length, take}
use Rattle.solver.specs.EdgeCursors.{end_from, starts_from}
use Rattle.solver.proofs.edges.to_starts.Given as goal

abbrev pub invariant-loop-part : goal.invariant-loop-part
invariant-loop-part l = record {
  starts : take l.part l.counts.items ++ starts_from l.start (drop l.part l.counts.items) ≡ starts_from 0 l.fn.counts.items;
  end : end_from l.start (drop l.part l.counts.items) ≡ end_from 0 l.fn.counts.items;
  count : length l.counts.items ≡ length l.fn.counts.items;
}
