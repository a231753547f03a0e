use Rattle.std.proofs.Common.{ℕ, ◌<◌}
use Rattle.std.specs.Prelude.{IsTrue}
use Rattle.solver.specs.Queue.{IsSeeded, RightIsUnknown, flag, order_in}
use Rattle.solver.proofs.queue.all_queued.Given as goal

abbrev pub invariant-ordered : goal.invariant-ordered
invariant-ordered g l = record {
  seeded : IsSeeded l.constraints l.queue.waits.items (order_in l.queue.order);
}

abbrev pub invariant-all : goal.invariant-all
invariant-all g l = record {
  seeded : IsSeeded l.constraints l.queue.waits.items (order_in l.queue.order);
  all : (i : ℕ) → i < l.by → RightIsUnknown l.constraints i → IsTrue (flag l.queue.waits.items i);
}
