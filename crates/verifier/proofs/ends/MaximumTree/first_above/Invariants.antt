use Rattle.std.proofs.Common.{◌-◌}
use Rattle.verifier.proofs.Trees.{IsDescent}
use Rattle.verifier.proofs.ends.MaximumTree.first_above.Given as goal

abbrev pub invariant-loop-first : goal.invariant-loop-first
invariant-loop-first l = IsDescent l.self.nodes.items l.self.width l.low l.first l.node

abbrev pub decreases-loop-first : goal.decreases-loop-first
decreases-loop-first l = l.self.width - l.first
