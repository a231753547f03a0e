use Rattle.std.proofs.lemmas.List.Elements.{All-push}
use Rattle.labels.specs.Canonical.{IsCanonicalPolicy}
use Rattle.tests_model.proofs.label_table.owned.Goals as goal

pub loop-owner-preserved : goal.loop-owner-preserved
loop-owner-preserved c =
    rw c.in_ok-push.ensures.items (All-push IsCanonicalPolicy c.loop-owner.policies.items c.alone.result c.loop-owner.invariant c.alone.ensures)
