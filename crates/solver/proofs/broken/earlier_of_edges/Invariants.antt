use Rattle.std.proofs.Common.{◌≡◌, take}
use Rattle.solver.specs.Broken.{candidates, earliest, is_below}
use Rattle.solver.proofs.broken.earlier_of_edges.Given as goal

abbrev pub invariant-loop-edge : goal.invariant-loop-edge
invariant-loop-edge g l =
    l.best ≡ earliest l.fn.best (candidates (is_below (g.W.WrittenElements.order l.written) (g.W.WrittenElements.elements l.written)) l.value l.parent (take l.edge-index l.edges))
