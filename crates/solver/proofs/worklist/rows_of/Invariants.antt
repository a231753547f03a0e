use Rattle.std.proofs.Common.{length, ◌+◌}
use Rattle.solver.specs.Looks.{written_left}
use Rattle.solver.specs.Work.{AreSoFar, IsWork, room}
use Rattle.solver.specs.Queue.{order_in}
use Rattle.solver.proofs.worklist.rows_of.Given as goal

abbrev pub invariant-loop-by : goal.invariant-loop-by
invariant-loop-by g l = record {
  work : IsWork l.constraints l.edges l.reached.rows l.queue.waits.items (order_in l.queue.order) (length l.constraints);
  so_far : AreSoFar l.constraints l.edges l.reached.rows (order_in l.queue.order) l.reached.looks;
}

abbrev pub decreases-loop-by : goal.decreases-loop-by
decreases-loop-by g l = length (order_in l.queue.order) + room (written_left l.constraints 0 (length l.edges.written)) l.edges.unknown l.reached.rows
