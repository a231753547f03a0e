use Rattle.std.proofs.Common.{subst}
use Rattle.std.specs.Prelude.{Contains, IsTrue}
use Rattle.labels.proofs.Present.{searched-present}
use Rattle.labels.proofs.label_sets.Label.has.Goals as goal

pub returns : goal.returns
returns c =
    λ holds. subst (λ policies. Contains policies c.args.policy.now) c.policies.ensures.policies
    (searched-present c.policies.result.now c.args.policy.now c.binary_search.result c.binary_search.ensures.bound c.binary_search.ensures.ok
    (subst IsTrue c.is_ok.ensures.value holds))
