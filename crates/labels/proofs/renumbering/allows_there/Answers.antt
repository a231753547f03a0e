use Rattle.std.proofs.Common.{◌≡◌, ◌∙◌, false, rules}
use Rattle.std.specs.List.{list_any}
use Rattle.principals.specs.ActsFor.{acts_for}
use Rattle.labels.specs.Carried.{numbered}
use Rattle.labels.proofs.Carried.{any_carried}
use Rattle.labels.proofs.renumbering.allows_there.Goals as goal

pub returns-else-acts_for : goal.returns-else-acts_for
returns-else-acts_for c =
    let owner : acts_for c.args.larger.now.pairs c.args.principal (numbered c.args.numbers.now c.args.policy.now.owner) ≡ false = search rules in
    rw owner (c.acts_there_for_some.ensures
    ∙ (λ i. list_any (λ reader. acts_for c.args.larger.now.pairs c.args.principal (numbered c.args.numbers.now reader)) (c.readers.ensures.readers i))
    ∙ any_carried (acts_for c.args.larger.now.pairs c.args.principal) (numbered c.args.numbers.now) c.args.policy.now.readers)
