use Rattle.std.proofs.Common.{sym, ◌∙◌, subst}
use Rattle.labels.specs.Canonical.{IsCanonicalLabel}
use Rattle.labels.proofs.Written.{IsCanonicalLabel-written}
use Rattle.labels.proofs.label_sets.Label.written.Goals as goal

pub of-requires-clause-ascending : goal.of-requires-clause-ascending
of-requires-clause-ascending c = (subst IsCanonicalLabel (sym c.each_once.ensures) (IsCanonicalLabel-written c.args.policies.items c.requires)).policies_ascend

pub of-requires-clause-each_canonical : goal.of-requires-clause-each_canonical
of-requires-clause-each_canonical c = (subst IsCanonicalLabel (sym c.each_once.ensures) (IsCanonicalLabel-written c.args.policies.items c.requires)).each_canonical

pub returns : goal.returns
returns c = c.of.ensures ∙ c.each_once.ensures
