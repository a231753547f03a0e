use Rattle.std.proofs.Common.{◌≡◌, length}
use Rattle.solver.specs.EdgeCursors.{AreFilledTo}
use Rattle.solver.specs.declared.constraints.Atom.TheVariants.{Unknown, Written}
use Rattle.solver.proofs.edges.edges_of.Given as goal

abbrev pub invariant-loop-by : goal.invariant-loop-by
invariant-loop-by g l = record {
  written : AreFilledTo Written l.constraints l.by l.filling.written.cursors.items l.filling.written.list.items;
  unknown : AreFilledTo Unknown l.constraints l.by l.filling.unknown.cursors.items l.filling.unknown.list.items;
  written_count : length l.filling.written.cursors.items ≡ l.written;
  unknown_count : length l.filling.unknown.cursors.items ≡ l.unknowns;
}
