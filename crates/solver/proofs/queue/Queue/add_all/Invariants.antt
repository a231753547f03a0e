use Rattle.std.proofs.Common.{take}
use Rattle.solver.specs.Queue.{Added, order_in}
use Rattle.solver.proofs.queue.Queue.add_all.Given as goal

abbrev pub invariant-loop-edge : goal.invariant-loop-edge
invariant-loop-edge l = record {
  added : Added (take l.edge-index l.edges) l.fn.self.waits.items (order_in l.fn.self.order) l.self.waits.items (order_in l.self.order);
}
