use Rattle.std.proofs.Common.{refl}
use Rattle.labels.proofs.Held.{some-covered}
use Rattle.labels.proofs.entries.flows_to_few.Goals as goal

pub returns-then-policies-le-FEW : goal.returns-then-policies-le-FEW
returns-then-policies-le-FEW c = λ holds.
    some-covered c.args.hierarchy.now c.args.policies.now c.args.policies.now c.args.policy.now c.flows_to_some.result refl c.flows_to_some.ensures holds
