-- The label at which a statement has evaluated its own expressions, and at which these raise exceptions.
use Rattle.std.specs.Prelude.{◌++◌, Some, flat_map}
use Rattle.resolved.specs.Exits.{index_can_raise, list_if}
use Rattle.resolved.specs.Tree.{Statement, Placed, Assign, Store, Receive, Send, Call, If, While, ReturnWith}
use Rattle.resolved.specs.declared.target.Target.TheVariants.{ToChannel, ToLoop}
use Rattle.resolved.specs.Labelled.{Scope, Join, one, label_of, value_label, raise_label}

abbrev pub own_label : Scope → (pc : Join) → Statement → Join
own_label scope pc (Placed at (Assign x e)) = pc ++ raise_label scope e
own_label scope pc (Placed at (Store array length index e)) =
    pc ++ raise_label scope index ++ raise_label scope e ++ list_if (index_can_raise index length) (value_label scope index)
own_label scope pc (Placed at (Receive channel target)) = pc ++ one (label_of scope.program (ToChannel channel))
own_label scope pc (Placed at (Send channel e)) = pc ++ raise_label scope e
own_label scope pc (Placed at (Call procedure arguments target)) = pc ++ flat_map (raise_label scope) arguments
own_label scope pc (Placed at (If e then_block else_block)) = pc ++ raise_label scope e
own_label scope pc (Placed at (While loop e body)) =
    one (label_of scope.program (ToLoop scope.number loop)) ++ raise_label scope e
own_label scope pc (Placed at (ReturnWith (Some e))) = pc ++ raise_label scope e
own_label scope pc other = pc
