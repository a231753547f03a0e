use Rattle.std.proofs.Common.{ap, subst, ◌∷◌, []}
use Rattle.std.specs.Prelude.{Contains}
use Rattle.common.proofs.Elements.{Contains-first}
use Rattle.solver.specs.Reach.{edge}
use Rattle.solver.proofs.breaker.first_by_edge.Goals as goal

pub first_above-requires-clause-to : goal.first_above-requires-clause-to
first_above-requires-clause-to g c =
    c.requires.inside c.args.edge.by c.in-Written.to
    (subst (λ x. Contains (c.args.edge ∷ []) x) (ap (edge c.args.edge.by) c.in-Written.is) (Contains-first c.args.edge []))
