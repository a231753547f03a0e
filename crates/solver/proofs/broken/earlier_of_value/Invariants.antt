use Rattle.std.proofs.Common.{◌≡◌, ◌++◌, take}
use Rattle.solver.specs.Broken.{candidates, earliest, found_candidates, is_below}
use Rattle.solver.specs.Reach.{row_of}
use Rattle.solver.specs.declared.constraints.Atom.TheVariants.{Written}
use Rattle.solver.proofs.broken.earlier_of_value.Given as goal

abbrev pub invariant-loop-k : goal.invariant-loop-k
invariant-loop-k g l =
    l.best ≡ earliest l.fn.best (candidates (is_below (g.W.WrittenElements.order l.written) (g.W.WrittenElements.elements l.written)) l.value 0 (row_of l.edges (Written l.value))
    ++ found_candidates l.edges (is_below (g.W.WrittenElements.order l.written) (g.W.WrittenElements.elements l.written)) l.value 0 (take l.k l.found))
