use Rattle.std.proofs.Common.{length}
use Rattle.solver.specs.Broken.{is_below}
use Rattle.solver.specs.declared.edges.Edge.{Edge}
use Rattle.solver.specs.declared.constraints.Atom.TheVariants.{Written}
use Rattle.solver.proofs.Breaking.{edges_step, one-right_inside}
use Rattle.solver.proofs.broken.earlier_of_edges.Goals as goal

abbrev first_edge : Edge
first_edge = record { by = 0; to = Written 0 }

pub earlier_of_edge-best-requires-clause-inside : goal.earlier_of_edge-best-requires-clause-inside
earlier_of_edge-best-requires-clause-inside g c =
    one-right_inside c.args.edges.now c.loop-edge.edge-index first_edge (length (g.W.WrittenElements.elements c.args.written.now)) c.loop-edge-test.true c.requires.inside

pub loop-edge-preserved : goal.loop-edge-preserved
loop-edge-preserved g c =
    edges_step (is_below (g.W.WrittenElements.order c.args.written.now) (g.W.WrittenElements.elements c.args.written.now)) c.args.value c.args.parent c.args.edges.now c.loop-edge.edge-index first_edge
    c.args.best c.loop-edge.best c.earlier_of_edge-best.result c.loop-edge-test.true c.loop-edge.invariant c.earlier_of_edge-best.ensures
