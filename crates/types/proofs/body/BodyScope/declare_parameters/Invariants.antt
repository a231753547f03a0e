use Rattle.std.proofs.Common.{◌≤◌, ◌+◌, ◌*◌, map}
use Rattle.syntax.specs.Tree.{parameter_tree}
use Rattle.common.specs.Results.{along}
use Rattle.types.specs.Resolution.{next_parameter}
use Rattle.types.specs.Views.{IsLater, item_scope_of, point_of, taken}
use Rattle.types.proofs.Loops.{GoesOn}
use Rattle.types.proofs.body.BodyScope.declare_parameters.Given as goal

abbrev pub invariant-loop-one : goal.invariant-loop-one
invariant-loop-one l = record {
  on : GoesOn (next_parameter (item_scope_of l.fn.self)) parameter_tree l.written (along (next_parameter (item_scope_of l.fn.self)) (point_of l.fn.self) (map parameter_tree l.written)) (point_of l.self) l.one-index;
  later : IsLater l.fn.self l.self;
  grows : taken l.self ≤ taken l.fn.self + 2 * l.one-index;
}
