use Rattle.std.proofs.lemmas.List.Elements.{All-push}
use Rattle.labels.specs.Canonical.{IsCanonicalPolicy}
use Rattle.tests_model.proofs.labels_of.label.Goals as goal

pub each-preserved : goal.each-preserved
each-preserved c =
    rw c.in_ok-push.ensures.items (All-push IsCanonicalPolicy c.each.policies.items c.in_ok-policy.field-0 c.each.invariant c.in_ok-policy.ensures)
