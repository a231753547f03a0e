use Rattle.std.proofs.Common.{take}
use Rattle.std.specs.Prelude.{IfSome}
use Rattle.solver.specs.Breaker.{IsAboveRow, IsFirstOf, RowBreaks}
use Rattle.solver.specs.Broken.{is_below}
use Rattle.solver.proofs.breaker.first_by_row.Given as goal

abbrev pub invariant-loop-edge : goal.invariant-loop-edge
invariant-loop-edge g l = record {
  comparing : g.W.WrittenElements.compares l.written l.comparing;
  first : IsFirstOf (RowBreaks (is_below (g.W.WrittenElements.order l.written) (g.W.WrittenElements.elements l.written)) l.row (take l.edge-index l.edges)) l.before l.compared.first;
  above : IfSome l.compared.above (IsAboveRow (is_below (g.W.WrittenElements.order l.written) (g.W.WrittenElements.elements l.written)) l.row);
}
