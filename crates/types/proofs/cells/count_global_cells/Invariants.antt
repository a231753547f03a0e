use Rattle.std.proofs.Common.{◌≤◌, map}
use Rattle.syntax.specs.Tree.{item_tree}
use Rattle.types.specs.Resolution.{next_global_cells}
use Rattle.types.proofs.Loops.{GoesOn}
use Rattle.types.proofs.cells.count_global_cells.Given as goal
use Rattle.common.specs.declared.limits.TheConstants.{MAX_CELLS}
use Rattle.common.specs.Results.{along}

abbrev pub invariant-loop-item : goal.invariant-loop-item
invariant-loop-item l = record {
  on : GoesOn next_global_cells item_tree l.items (along next_global_cells 0 (map item_tree l.items)) l.cells l.item-index;
  few : l.cells ≤ MAX_CELLS;
}
