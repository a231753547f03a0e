use Rattle.std.proofs.Common.{sym, subst}
use Rattle.labels.specs.Canonical.{IsCanonicalLabel}
use Rattle.labels.proofs.Written.{IsCanonicalLabel-least}
use Rattle.labels.proofs.label_sets.Label.least.Goals as goal

pub invariant_of-result : goal.invariant_of-result
invariant_of-result c = subst IsCanonicalLabel (sym c.new.ensures.items) IsCanonicalLabel-least
