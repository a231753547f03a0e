use Rattle.std.proofs.Common.{take}
use Rattle.solver.specs.Reach.{AllMarked, Grows}
use Rattle.solver.proofs.search.Search.follow.Given as goal

abbrev pub invariant-loop-edge : goal.invariant-loop-edge
invariant-loop-edge l = record {
  grows : Grows l.edges l.parent l.fn.self.marks.items l.fn.self.found.items l.self.marks.items l.self.found.items;
  marked : AllMarked (take l.edge-index l.edges) l.self.marks.items;
}
