use Rattle.std.proofs.Common.{◌+◌, ◌≤◌, length, map, drop, sum_by}
use Rattle.syntax.specs.Nodes.{item_nodes}
use Rattle.syntax.specs.Tree.{item_tree}
use Rattle.types.specs.Resolution.{next_item, empty_program}
use Rattle.types.specs.Views.{AreTablesInside, tables_view, top_view}
use Rattle.types.proofs.Loops.{GoesOn}
use Rattle.types.proofs.program.ItemTables.of.Given as goal
use Rattle.common.specs.Results.{along}

abbrev pub invariant-loop-item : goal.invariant-loop-item
invariant-loop-item l = record {
  on : GoesOn (next_item l.context.hierarchy.now (top_view l.context.top.now)) item_tree l.items (along (next_item l.context.hierarchy.now (top_view l.context.top.now)) empty_program (map item_tree l.items)) (tables_view l.tables) l.item-index;
  inside : AreTablesInside l.tables;
  few : length l.tables.variables.labels + sum_by item_nodes (map item_tree (drop l.item-index l.items)) ≤ 1 + sum_by item_nodes (map item_tree l.items);
}
