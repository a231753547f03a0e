use Rattle.path_map.specs.Exceptions.{raised_list}
use Rattle.path_map.specs.Sets.{members}
use Rattle.path_map.proofs.Walking.{going-found}
use Rattle.path_map.proofs.walk.go_on.Goals as goal

pub returns-clause-found : goal.returns-clause-found
returns-clause-found c = λ exceptions same entries.
    going-found (raised_list c.args.found.arith c.args.found.bounds) exceptions same c.in_ok-add_to.field-0 c.in_ok-add_to.ensures.summary
    (members c.args.raised.now) (members c.add_to.new.set) c.in_ok-add_to.ensures.added c.go_on_or_raise.result entries c.go_on_or_raise.ensures
