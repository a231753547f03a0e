use Rattle.std.proofs.Common.{◌≡◌, length, take}
use Rattle.solver.specs.EdgeCursors.{MoreCounted}
use Rattle.solver.specs.declared.constraints.Atom.TheVariants.{Unknown, Written}
use Rattle.solver.proofs.edges.EdgeCounts.add_left.Given as goal

abbrev pub invariant-loop-atom : goal.invariant-loop-atom
invariant-loop-atom l = record {
  written : MoreCounted Written (take l.atom-index l.left) l.fn.self.written.items l.self.written.items;
  unknown : MoreCounted Unknown (take l.atom-index l.left) l.fn.self.unknown.items l.self.unknown.items;
  written_count : length l.self.written.items ≡ length l.fn.self.written.items;
  unknown_count : length l.self.unknown.items ≡ length l.fn.self.unknown.items;
}
