use Rattle.std.proofs.Common.{◌+◌, ◌/◌, ◌≤◌}
use Rattle.constraints.specs.Laying.{AreLaidSoFar}
use Rattle.constraints.specs.Merging.{rows_of}
use Rattle.constraints.proofs.laying.lay_out.Given as goal

abbrev pub invariant-loop-number : goal.invariant-loop-number
invariant-loop-number l = record {
  so_far : AreLaidSoFar (rows_of l.kept) l.number l.fn.made.number l.made.number l.held.items l.fn.made.constraints.items l.made.constraints.items;
  few : l.made.number ≤ l.fn.made.number + l.number / 2;
}
