use Rattle.std.proofs.Common.{subst}
use Rattle.std.specs.Prelude.{IsTrue}
use Rattle.labels.proofs.Present.{searched-present}
use Rattle.labels.proofs.entries.is_among.Goals as goal

pub returns : goal.returns
returns c =
    λ holds. searched-present c.args.policies.now c.args.policy.now c.binary_search.result c.binary_search.ensures.bound c.binary_search.ensures.ok
    (subst IsTrue c.is_ok.ensures.value holds)
