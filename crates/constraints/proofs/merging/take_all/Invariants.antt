use Rattle.std.proofs.Common.{◌≡◌, length}
use Rattle.constraints.specs.Following.{IsOver}
use Rattle.constraints.specs.Merging.{AreTaken, rows_of}
use Rattle.constraints.proofs.merging.take_all.Given as goal

abbrev pub invariant-loop-constraint : goal.invariant-loop-constraint
invariant-loop-constraint l = record {
  taken : AreTaken (IsOver l.following) l.yielded (rows_of l.fn.kept.items) (rows_of l.kept.items) l.fn.rest.items l.rest.items;
  count : length l.kept.items ≡ length l.fn.kept.items;
}
