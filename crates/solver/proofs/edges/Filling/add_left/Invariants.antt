use Rattle.std.proofs.Common.{◌≡◌, length}
use Rattle.solver.specs.EdgeCursors.{AreFilled}
use Rattle.solver.specs.declared.constraints.Atom.TheVariants.{Unknown, Written}
use Rattle.solver.proofs.EdgeCursors.{done_to, left_from}
use Rattle.solver.proofs.edges.Filling.add_left.Given as goal

abbrev pub invariant-loop-atom : goal.invariant-loop-atom
invariant-loop-atom g l = record {
  written : AreFilled Written (done_to l.constraints l.by l.to l.atom-items l.atom-index) (left_from l.constraints l.by l.to l.atom-items l.atom-index) l.self.written.cursors.items l.self.written.list.items;
  unknown : AreFilled Unknown (done_to l.constraints l.by l.to l.atom-items l.atom-index) (left_from l.constraints l.by l.to l.atom-items l.atom-index) l.self.unknown.cursors.items l.self.unknown.list.items;
  written_count : length l.self.written.cursors.items ≡ length l.fn.self.written.cursors.items;
  unknown_count : length l.self.unknown.cursors.items ≡ length l.fn.self.unknown.cursors.items;
}
