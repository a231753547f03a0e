use Rattle.std.specs.Prelude.{All}
use Rattle.labels.specs.Canonical.{IsCanonicalPolicy}
use Rattle.tests_model.proofs.labels_of.label.Given as goal

abbrev pub invariant-each : goal.invariant-each
invariant-each l = All IsCanonicalPolicy l.policies.items
