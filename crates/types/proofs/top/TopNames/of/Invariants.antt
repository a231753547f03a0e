use Rattle.std.proofs.Common.{◌+◌, ◌≤◌, length, map}
use Rattle.syntax.specs.Tree.{item_tree}
use Rattle.types.specs.Resolution.{next_name, built_in}
use Rattle.types.specs.Views.{top_view}
use Rattle.types.proofs.Loops.{GoesOn}
use Rattle.types.proofs.top.TopNames.of.Given as goal
use Rattle.common.specs.Results.{along}

abbrev pub invariant-loop-item : goal.invariant-loop-item
invariant-loop-item l = record {
  on : GoesOn next_name item_tree l.items (along next_name built_in (map item_tree l.items)) (top_view l.top) l.item-index;
  few : l.top.channels + l.top.exceptions + l.top.globals + length l.top.signatures.items ≤ l.item-index + 3;
}
