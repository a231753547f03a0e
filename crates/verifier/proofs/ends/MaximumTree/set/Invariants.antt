use Rattle.std.proofs.Common.{◌≡◌}
use Rattle.verifier.proofs.Trees.{IsMending}
use Rattle.verifier.proofs.ends.MaximumTree.set.Given as goal

abbrev pub invariant-loop-node : goal.invariant-loop-node
invariant-loop-node l = record {
  width_is : l.self.width ≡ l.fn.self.width;
  mending : IsMending l.fn.self.nodes.items l.self.nodes.items l.fn.self.width l.index l.number l.node;
}

abbrev pub decreases-loop-node : goal.decreases-loop-node
decreases-loop-node l = l.node
