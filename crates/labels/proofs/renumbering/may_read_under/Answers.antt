use Rattle.std.proofs.Common.{◌≡◌, ◌∙◌, sym}
use Rattle.std.specs.List.{list_all}
use Rattle.std.proofs.lemmas.List.Folds.{list_all-map}
use Rattle.labels.specs.Carried.{carried_label, carried_policy, numbered}
use Rattle.labels.specs.Label.{may_read, policy_allows}
use Rattle.labels.proofs.Tests.{may_read-decides}
use Rattle.labels.proofs.renumbering.may_read_under.Goals as goal

test_is : (c : goal.After-each_allows_there) → c.each_allows_there.result ≡ may_read c.args.larger.now c.args.principal (carried_label (numbered c.args.numbers.now) c.args.label.now)
test_is c =
    c.each_allows_there.ensures
    ∙ (λ i. list_all (λ policy. policy_allows c.args.larger.now c.args.principal (carried_policy (numbered c.args.numbers.now) policy)) (c.policies.ensures.policies i))
    ∙ sym (list_all-map (λ policy. policy_allows c.args.larger.now c.args.principal policy) (carried_policy (numbered c.args.numbers.now)) c.args.label.now)

pub returns-clause-test : goal.returns-clause-test
returns-clause-test c = test_is c

pub returns-clause-reads : goal.returns-clause-reads
returns-clause-reads c = rw (test_is c) (may_read-decides c.args.larger.now c.args.principal (carried_label (numbered c.args.numbers.now) c.args.label.now))
