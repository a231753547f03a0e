use Rattle.std.proofs.Common.{◌≡◌, length, take}
use Rattle.solver.specs.EdgeCursors.{AreCounted}
use Rattle.solver.specs.Links.{links_of}
use Rattle.solver.specs.declared.constraints.Atom.TheVariants.{Unknown, Written}
use Rattle.solver.proofs.edges.counts_of.Given as goal

abbrev pub invariant-loop-constraint : goal.invariant-loop-constraint
invariant-loop-constraint g l = record {
  written : AreCounted Written (links_of 0 (take l.constraint-index l.constraints)) l.counts.written.items;
  unknown : AreCounted Unknown (links_of 0 (take l.constraint-index l.constraints)) l.counts.unknown.items;
  written_count : length l.counts.written.items ≡ l.written;
  unknown_count : length l.counts.unknown.items ≡ l.unknowns;
}
