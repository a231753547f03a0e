use Rattle.std.proofs.Common.{length, ◌*◌, ◌+◌}
use Rattle.std.specs.List.{sum}
use Rattle.solver.proofs.order.EdgeWalk.go_on.Given as goal

abbrev pub decreases-loop-unknown : goal.decreases-loop-unknown
decreases-loop-unknown l = 2 * sum l.self.left.items + length l.self.way.items
