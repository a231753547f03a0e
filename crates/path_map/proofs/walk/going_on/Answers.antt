use Rattle.std.proofs.Common.{refl}
use Rattle.path_map.specs.Exceptions.{raised_list}
use Rattle.path_map.specs.declared.exits.Raised.TheVariants.{Nothing}
use Rattle.path_map.proofs.Walking.{going-found, sum-none}
use Rattle.path_map.proofs.walk.going_on.Goals as goal

pub returns : goal.returns
returns c = λ exceptions had same entries.
    going-found (raised_list c.args.found.arith c.args.found.bounds) exceptions same Nothing (rw (c.if-found.false, c.if-found-2.false) refl)
    had had (rw (c.if-found.false, c.if-found-2.false) (sum-none had)) c.go_on_or_raise.result entries c.go_on_or_raise.ensures
