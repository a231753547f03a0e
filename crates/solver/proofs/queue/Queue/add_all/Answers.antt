use Rattle.std.proofs.Common.{subst, length, arith}
use Rattle.std.proofs.lemmas.List.{take_all}
use Rattle.solver.specs.Queue.{Added, order_in}
use Rattle.solver.specs.declared.edges.Edge.{Edge}
use Rattle.solver.specs.declared.constraints.Atom.TheVariants.{Written}
use Rattle.solver.proofs.Queued.{added-none, added-step, one-edge}
use Rattle.solver.proofs.queue.Queue.add_all.Goals as goal

first_edge : Edge
first_edge = record { by = 0; to = Written 0 }

pub loop-edge-init : goal.loop-edge-init
loop-edge-init c = record { added = added-none c.args.self.now.waits.items (order_in c.args.self.now.order) }

pub add_along-requires : goal.add_along-requires
unfolding first_edge
add_along-requires c =
    one-edge c.args.edges.now c.loop-edge.edge-index first_edge (length c.args.self.now.waits.items) (length c.loop-edge.self.waits.items)
    c.loop-edge-test.true c.requires c.loop-edge.invariant.added.count

pub loop-edge-preserved : goal.loop-edge-preserved
unfolding first_edge
loop-edge-preserved c = record {
  added = added-step c.args.edges.now c.loop-edge.edge-index first_edge c.args.self.now.waits.items (order_in c.args.self.now.order) c.loop-edge.self.waits.items (order_in c.loop-edge.self.order)
      c.add_along.new.self.waits.items (order_in c.add_along.new.self.order) c.loop-edge-test.true c.loop-edge.invariant.added c.in_ok-add_along.ensures;
}

pub returns : goal.returns
returns c =
    subst (λ es. Added es c.args.self.now.waits.items (order_in c.args.self.now.order) c.loop-edge.self.waits.items (order_in c.loop-edge.self.order))
    (take_all c.loop-edge.edge-index c.args.edges.now (omega (arith, c.loop-edge-test.false))) c.loop-edge.invariant.added
