use Rattle.std.proofs.Common.{◌≡◌, map, take}
use Rattle.syntax.specs.Tree.{ParameterTree, parameter_tree}
use Rattle.types.proofs.top.make_signature.Given as goal

abbrev pub invariant-loop-parameter : goal.invariant-loop-parameter
invariant-loop-parameter l =
    l.parameters.items ≡ map (λ (parameter : ParameterTree). parameter.base) (map parameter_tree (take l.parameter-index l.procedure.parameters.items))
