use Rattle.resolved.specs.Exits.{raises}
use Rattle.std.specs.Prelude.{flat_map}
use Rattle.std.proofs.Common.{◌≡◌, ℕ, ◌||◌, map, drop}
use Rattle.resolved.specs.TreeOf.{expression_of}
use Rattle.path_map.specs.Exceptions.{is_one_of, raised_list}
use Rattle.path_map.proofs.raises.raises_of_all.Given as goal

abbrev pub invariant-loop-expression : goal.invariant-loop-expression
invariant-loop-expression l = (exception : ℕ) →
    (is_one_of (raised_list l.found.arith l.found.bounds) exception || is_one_of (flat_map raises (map expression_of (drop l.expression-index l.expressions))) exception)
    ≡ is_one_of (flat_map raises (map expression_of l.expressions)) exception
