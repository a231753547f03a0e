use Rattle.common.specs.Results.{along}
use Rattle.std.proofs.Common.{◌≡◌, ℕ, map, nat_eq, []}
use Rattle.indexmap.specs.IndexSet.{contains}
use Rattle.syntax.specs.Tree.{thrown_tree}
use Rattle.types.specs.Resolution.{is_thrown, next_thrown}
use Rattle.types.specs.VariableEntries.{AreThrownLabelsInside, HasMoreLabels}
use Rattle.types.specs.Views.{item_scope, throws_view}
use Rattle.types.proofs.Loops.{GoesOn}
use Rattle.types.proofs.procedure.resolve_throws.Given as goal

abbrev pub invariant-loop-one : goal.invariant-loop-one
invariant-loop-one l = record {
  on : GoesOn (next_thrown (item_scope l.context l.initial.variables)) thrown_tree l.written (along (next_thrown (item_scope l.context l.initial.variables)) [] (map thrown_tree l.written)) (throws_view l.variables.labels l.throws) l.one-index;
  same : (number : ℕ) → contains nat_eq l.seen number ≡ is_thrown (throws_view l.variables.labels l.throws) number;
  inside : AreThrownLabelsInside l.variables.labels l.throws.items;
  more : HasMoreLabels l.one-index l.initial.variables l.variables;
}
