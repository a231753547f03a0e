-- The laws of the order of policies, which the comparisons of `Policy` and `Label` have to show.
-- Source: our own.
use Rattle.std.specs.Prelude.{Bool}
use Rattle.std.proofs.Common.{refl}
use Rattle.std.specs.Cmp.{IsTotalOrder, IsPartialOrder, IsEquivalence, IsPartialEquivalence, partial_order_from_agreeing_total, partial_equiv_from_equiv}
use Rattle.std.specs.Cmp.Lexicographic.{pointwise}
use Rattle.std.specs.Ordering.{eq_by_cmp, as_partial_cmp}
use Rattle.std.proofs.lemmas.Cmp.{nat_cmp_total, nat_list_cmp_total, on_total, then_total, eq_by_cmp_equiv, lists_equiv}
use Rattle.labels.specs.Label.{ReaderPolicy, Label}
use Rattle.labels.specs.Canonical.{policy_cmp}

-- two policies tie in the order
abbrev pub policy_eq : ReaderPolicy → ReaderPolicy → Bool
policy_eq = eq_by_cmp policy_cmp

pub policy_cmp-total : IsTotalOrder policy_cmp
policy_cmp-total = then_total (on_total (λ policy. policy.owner) nat_cmp_total) (on_total (λ policy. policy.readers) nat_list_cmp_total)

pub policy_cmp-partial : IsPartialOrder policy_eq (as_partial_cmp policy_cmp)
policy_cmp-partial = partial_order_from_agreeing_total policy_cmp policy_cmp-total (λ _ _. refl) (λ _ _. refl)

pub policy_eq-equivalence : IsEquivalence policy_eq
policy_eq-equivalence = eq_by_cmp_equiv policy_cmp-total

pub policy_eq-partial : IsPartialEquivalence policy_eq
policy_eq-partial = partial_equiv_from_equiv policy_eq-equivalence

-- two labels tie policy by policy
abbrev pub label_eq : Label → Label → Bool
label_eq = pointwise policy_eq

pub label_eq-equivalence : IsEquivalence label_eq
label_eq-equivalence = lists_equiv policy_eq-equivalence

pub label_eq-partial : IsPartialEquivalence label_eq
label_eq-partial = partial_equiv_from_equiv label_eq-equivalence
