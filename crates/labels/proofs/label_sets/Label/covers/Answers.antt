use Rattle.std.proofs.Common.{sym, ◌∙◌}
use Rattle.labels.proofs.Present.{present-covered, present-covers}
use Rattle.labels.proofs.Tests.{covers-decides}
use Rattle.labels.proofs.label_sets.Label.covers.Goals as goal

pub returns-then-has-clause-test : goal.returns-then-has-clause-test
returns-then-has-clause-test c = c.if-has.true ∙ sym (present-covered c.args.hierarchy.now c.args.self.now c.args.policy.now (c.has.ensures c.if-has.true))

pub returns-then-has-clause-covers : goal.returns-then-has-clause-covers
returns-then-has-clause-covers c = (λ yes. present-covers c.args.hierarchy.now c.args.self.now c.args.policy.now (c.has.ensures c.if-has.true), λ there. c.if-has.true)

pub returns-else-has-clause-covers : goal.returns-else-has-clause-covers
returns-else-has-clause-covers c = rw c.has_above.ensures (covers-decides c.args.hierarchy.now c.args.self.now c.args.policy.now)
