-- The join of many labels is the label that is written with all their policies.
use Rattle.std.proofs.Common.{◌≡◌, ℕ, ◌<◌, List, [], ◌∷◌, ◌++◌, arith, length, map, sym, ◌∙◌, ap, inl, inr, append_assoc, append-nil}
use Rattle.std.specs.Prelude.{Contains}
use Rattle.std.proofs.lemmas.List.Elements.{Contains-append_left, Contains-append_right, Contains-append_cases}
use Rattle.labels.specs.Label.{ReaderPolicy, Label}
use Rattle.labels.specs.LabelTable.{label_at, labels_of}
use Rattle.labels.specs.Canonical.{written_label, joined}
use Rattle.labels.specs.PolicyOrder.{policy_cmp-total}
use Rattle.labels.proofs.Ascending.{ascending_set-sorted, ascending_set-unique, SameSet-trans}
use Rattle.labels.proofs.Order.{policy_cmp-exact}
use Rattle.labels.proofs.Written.{SameSet-joined, SameSet-written}
use Rattle.resolved.specs.declared.tables.Thrown.{Thrown}
use Rattle.resolved.specs.ProgramOf.{thrown_entry}
use Rattle.types.specs.Resolution.{joined_all}

joined_written : (policies : List ReaderPolicy) (label : Label) → joined (written_label policies) label ≡ written_label (policies ++ label)
joined_written policies label =
    ascending_set-unique policy_cmp-total policy_cmp-exact (policies ++ label) (joined (written_label policies) label)
    (ascending_set-sorted policy_cmp-total (written_label policies ++ label))
    (SameSet-trans (joined (written_label policies) label) (written_label policies ++ label) (policies ++ label) (SameSet-joined (written_label policies) label) (λ policy. (to policy, from policy)))
  where
    to : (policy : ReaderPolicy) → Contains (written_label policies ++ label) policy → Contains (policies ++ label) policy
    to policy there = elim (Contains-append_cases (written_label policies) label policy there) [
      | inl first ↦ Contains-append_left policies label policy ((SameSet-written policies policy).0 first)
      | inr second ↦ Contains-append_right policies label policy second
    ]

    from : (policy : ReaderPolicy) → Contains (policies ++ label) policy → Contains (written_label policies ++ label) policy
    from policy there = elim (Contains-append_cases policies label policy there) [
      | inl first ↦ Contains-append_left (written_label policies) label policy ((SameSet-written policies policy).1 first)
      | inr second ↦ Contains-append_right (written_label policies) label policy second
    ]

abbrev pub thrown_labels : List Thrown → List ℕ
thrown_labels throws = map (λ (thrown : Thrown). thrown.label) throws

module _ (labels : List Label) where
  joined_further : (policies : List ReaderPolicy) (throws : List Thrown)
      → joined_all (written_label policies) (map (thrown_entry labels) throws) ≡ written_label (policies ++ labels_of labels (thrown_labels throws))
  joined_further policies [] = ap written_label (sym (append-nil policies))
  joined_further policies (thrown ∷ rest) =
      let label = label_at labels thrown.label in
      ap (λ one. joined_all one (map (thrown_entry labels) rest)) (joined_written policies label)
      ∙ joined_further (policies ++ label) rest
      ∙ ap written_label (append_assoc policies label (labels_of labels (thrown_labels rest)))

  -- a label and those of some exceptions
  pub joined_by_numbers : (first : ℕ) (throws : List Thrown) → 0 < length throws
      → joined_all (label_at labels first) (map (thrown_entry labels) throws) ≡ written_label (labels_of labels (first ∷ thrown_labels throws))
  joined_by_numbers first [] some = absurd (omega (arith, some))
  joined_by_numbers first (thrown ∷ rest) some =
      joined_further (label_at labels first ++ label_at labels thrown.label) rest
      ∙ ap written_label (append_assoc (label_at labels first) (label_at labels thrown.label) (labels_of labels (thrown_labels rest)))
