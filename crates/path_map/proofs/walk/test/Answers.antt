use Rattle.resolved.specs.Exits.{raises}
use Rattle.resolved.specs.TreeOf.{expression_of}
use Rattle.path_map.specs.Exceptions.{raised_list}
use Rattle.path_map.specs.Sets.{members}
use Rattle.path_map.proofs.Walking.{raising-found}
use Rattle.path_map.proofs.walk.test.Goals as goal

pub returns-clause-found : goal.returns-clause-found
returns-clause-found c = λ entries.
    raising-found (raised_list c.raises_of.result.arith c.raises_of.result.bounds) (raises (expression_of c.args.condition.now)) c.raises_of.ensures c.in_ok-add_to.field-0 c.in_ok-add_to.ensures.summary
    (members c.args.raised.now) (members c.add_to.new.set) c.in_ok-add_to.ensures.added c.raise_only.result entries c.raise_only.ensures
