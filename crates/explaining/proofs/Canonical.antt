-- Each label has a canonical one that flows both ways with it.
use Rattle.std.proofs.Common.{map, subst}
use Rattle.std.specs.Prelude.{IsTrue}
use Rattle.std.proofs.lemmas.List.Elements.{All-map}
use Rattle.common.proofs.Cases.{contained_map, contained_map_only}
use Rattle.principals.specs.ActsFor.{PrincipalHierarchy}
use Rattle.labels.specs.Canonical.{IsCanonicalLabel, IsCanonicalPolicy, written_label, written_policy}
use Rattle.labels.specs.Label.{Label, PolicyFlowsTo, ReaderPolicy, flows}
use Rattle.labels.proofs.Elements.{All-from_each}
use Rattle.labels.proofs.Flow.{FlowsTo-from_each}
use Rattle.labels.proofs.Meaning.{PolicyFlowsTo-written}
use Rattle.labels.proofs.Tests.{flows-decides}
use Rattle.labels.proofs.Written.{IsCanonicalLabel-written, IsCanonicalPolicy-written, SameSet-written}

abbrev canonical_policy : ReaderPolicy → ReaderPolicy
canonical_policy policy = written_policy policy.owner policy.readers

abbrev pub canonical : Label → Label
canonical label = written_label (map canonical_policy label)

pub IsCanonicalLabel-canonical : (label : Label) → IsCanonicalLabel (canonical label)
IsCanonicalLabel-canonical label =
    IsCanonicalLabel-written (map canonical_policy label)
    (All-map IsCanonicalPolicy canonical_policy label (All-from_each _ label (λ policy contained. IsCanonicalPolicy-written policy.owner policy.readers)))

module _ (h : PrincipalHierarchy) (label : Label) where
  pub canonical-above : IsTrue (flows h label (canonical label))
  canonical-above =
      (flows-decides h label (canonical label)).1
      (FlowsTo-from_each h label (canonical label)
      (λ policy contained. (
        canonical_policy policy,
        (SameSet-written (map canonical_policy label) (canonical_policy policy)).1 (contained_map canonical_policy label policy contained),
        (PolicyFlowsTo-written h policy.owner policy.readers).1,
      )))

  pub canonical-below : IsTrue (flows h (canonical label) label)
  canonical-below =
      (flows-decides h (canonical label) label).1
      (FlowsTo-from_each h (canonical label) label
      (λ policy contained.
      let found = contained_map_only canonical_policy label policy ((SameSet-written (map canonical_policy label) policy).0 contained) in (
        found.0,
        found.1,
        subst (λ (p : ReaderPolicy). PolicyFlowsTo h p found.0) found.2 (PolicyFlowsTo-written h found.0.owner found.0.readers).0,
      )))
