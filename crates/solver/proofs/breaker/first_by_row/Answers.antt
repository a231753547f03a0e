use Rattle.std.proofs.Common.{length}
use Rattle.solver.specs.Broken.{is_below}
use Rattle.solver.specs.declared.edges.Edge.{Edge}
use Rattle.solver.specs.declared.constraints.Atom.TheVariants.{Written}
use Rattle.solver.proofs.Breaking.{one-right_inside}
use Rattle.solver.proofs.Firsts.{row-step}
use Rattle.solver.proofs.breaker.first_by_row.Goals as goal

abbrev first_edge : Edge
first_edge = record { by = 0; to = Written 0 }

pub first_by_edge-requires-clause-inside : goal.first_by_edge-requires-clause-inside
first_by_edge-requires-clause-inside g c =
    one-right_inside c.args.edges.now c.loop-edge.edge-index first_edge (length (g.W.WrittenElements.elements c.args.written.now)) c.loop-edge-test.true c.requires.inside

pub loop-edge-preserved : goal.loop-edge-preserved
loop-edge-preserved g c = record {
  comparing = c.first_by_edge.ensures.comparing;
  first = row-step (is_below (g.W.WrittenElements.order c.args.written.now) (g.W.WrittenElements.elements c.args.written.now)) c.args.row.now c.args.edges.now c.loop-edge.edge-index first_edge
      c.args.before c.loop-edge.compared.first c.in_ok-compared.compared.first c.loop-edge-test.true c.loop-edge.invariant.first c.in_ok-compared.ensures.first;
  above = c.in_ok-compared.ensures.above;
}
