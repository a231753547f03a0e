use Rattle.std.proofs.Common.{◌≡◌, length}
use Rattle.path_map.specs.Rows.{AreDeclaredRows, HaveBound}
use Rattle.path_map.proofs.calls.EndsWalk.along.Given as goal

abbrev pub invariant-loop-procedure : goal.invariant-loop-procedure
invariant-loop-procedure l = record {
  count : length l.rows.items ≡ l.procedure-index;
  rows : AreDeclaredRows l.core l.rows.items;
  bounded : HaveBound l.bound l.rows.items;
}
