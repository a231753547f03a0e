use Rattle.std.proofs.Common.{◌+◌, ◌≤◌, length, take}
use Rattle.constraints.specs.Merging.{AreSpreadSoFar, rows_of}
use Rattle.constraints.specs.Following.{IsOver}
use Rattle.constraints.specs.Spreading.{all_calls}
use Rattle.constraints.proofs.spreading.spread_calls.Given as goal

abbrev pub invariant-loop-i : goal.invariant-loop-i
invariant-loop-i l = record {
  spread : AreSpreadSoFar (IsOver l.initial.spreading.following.now) l.fn.table.core.now l.fn.table.core.now.labels l.journal (all_calls (take l.i l.row-items)) (rows_of l.initial.kept.items) (rows_of l.kept.items) l.fn.made l.made;
  count : length l.kept.items ≤ l.fn.made.number;
  few : l.made.number ≤ l.fn.made.number + length (all_calls (take l.i l.row-items));
}
