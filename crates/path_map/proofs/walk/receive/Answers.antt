use Rattle.std.proofs.Common.{[], ◌∷◌}
use Rattle.resolved.specs.declared.statement.Exit.TheVariants.{Normal, Throw}
use Rattle.common.specs.declared.exceptions.TheConstants.{END}
use Rattle.path_map.specs.Sets.{members}
use Rattle.path_map.proofs.Walking.{alone, one-thrown}
use Rattle.path_map.proofs.walk.receive.Goals as goal

pub returns-clause-found : goal.returns-clause-found
returns-clause-found c =
    alone (Normal ∷ Throw END ∷ []) (members c.args.raised.now) (members c.insert.new.self) c.go_on_or_raise.result c.go_on_or_raise.ensures
    (one-thrown (members c.args.raised.now) (members c.insert.new.self) END c.in_ok-insert.ensures.added)
