use Rattle.std.specs.Prelude.{All}
use Rattle.labels.specs.Canonical.{IsCanonicalPolicy}
use Rattle.tests_model.proofs.label_table.owned.Given as goal

abbrev pub invariant-loop-owner : goal.invariant-loop-owner
invariant-loop-owner l = All IsCanonicalPolicy l.policies.items
