-- What a written policy and a written label come to: they are canonical, and sorting and dropping what stands twice makes them.
use Rattle.std.proofs.Common.{◌≡◌, ℕ, Bool, true, List, [], ◌++◌, ◌↔◌, refl, sym, subst, not, arith, ◌∙◌, filter, ap}
use Rattle.std.specs.Prelude.{All, Contains, IsTrue, ◌==◌}
use Rattle.std.specs.List.{dedup}
use Rattle.std.specs.List.Sorted.{IsPermutation, IsSorted}
use Rattle.std.specs.Cmp.{IsTotalOrder, IsEquivalence, Equal-is}
use Rattle.std.specs.Cmp.Lexicographic.{pointwise_decides}
use Rattle.std.specs.Ordering.{nat_cmp, eq_by_cmp, is_eq}
use Rattle.std.specs.declared.cmp.Ordering.{Ordering}
use Rattle.std.specs.declared.cmp.Ordering.TheVariants.{Equal}
use Rattle.std.proofs.lemmas.Bool.{eq-eqb}
use Rattle.std.proofs.lemmas.Bool.Decides.{nat_tests}
use Rattle.std.proofs.lemmas.Cmp.{nat_cmp_total, nat_eq_equiv}
use Rattle.std.proofs.lemmas.List.Elements.{All-append, All-contains, All-nil, filter_passes}
use Rattle.std.proofs.lemmas.List.Kept.{Contains-dedup, Contains-from_dedup, IsStrictlySortedBy-dedup, IsStrictlySortedBy-filter}
use Rattle.std.proofs.lemmas.List.Sorted.{Contains-permutation, IsPermutation-sym}
use Rattle.std.proofs.lemmas.Map.Keys.{IsStrictlyIncreasing-from_sorted}
use Rattle.std.proofs.lemmas.Map.Lookups.{CmpEqualImpliesEq, exact_unsigned}
use Rattle.labels.specs.Label.{ReaderPolicy, Label}
use Rattle.labels.specs.Sets.{SameSet, ascending_set}
use Rattle.labels.specs.Canonical.{IsCanonicalPolicy, IsCanonicalLabel, policy_cmp, readers_with, written_policy, written_label, joined}
use Rattle.labels.specs.PolicyOrder.{policy_cmp-total, policy_eq, policy_eq-equivalence, label_eq}
use Rattle.labels.proofs.Ascending.{sorted_nil, ascending_set-sorted, ascending_set-SameSet, ascending_set-unique, sorted_unique}
use Rattle.labels.proofs.Elements.{All-from_each, each_from_All}
use Rattle.labels.proofs.Order.{policy_cmp-exact}

-- a list sorted, and then without what stands twice, is the ascending set of the list
pub dedup-sorted : {X : Type 0} {cmp : X → X → Ordering} → IsTotalOrder cmp → CmpEqualImpliesEq cmp → (same : X → X → Bool) → IsEquivalence same →
    ((x y : X) → same x y ≡ eq_by_cmp cmp x y) → ((x y : X) → same x y ≡ true → x ≡ y) →
    (xs ys : List X) → IsPermutation xs ys → IsSorted cmp ys → dedup same ys ≡ ascending_set cmp xs
dedup-sorted order exact same equivalence ties equal xs ys moved sorted =
    ascending_set-unique order exact xs (dedup same ys) (IsStrictlySortedBy-dedup order ties ys sorted)
    (λ z. (
      λ c. Contains-permutation ys xs z (IsPermutation-sym xs ys moved) (Contains-from_dedup same ys z c),
      λ c. Contains-dedup equivalence equal ys z (Contains-permutation xs ys z moved c),
    ))

nat_eq-ties : (x y : ℕ) → (x == y) ≡ eq_by_cmp nat_cmp x y
nat_eq-ties x y = grind (arith, nat_tests)

nat_eq-equal : (x y : ℕ) → (x == y) ≡ true → x ≡ y
nat_eq-equal x y e = grind (arith, nat_tests)

pub dedup-sorted_numbers : (xs ys : List ℕ) → IsPermutation xs ys → IsSorted nat_cmp ys → dedup ◌==◌ ys ≡ ascending_set nat_cmp xs
dedup-sorted_numbers = dedup-sorted nat_cmp_total exact_unsigned ◌==◌ nat_eq_equiv nat_eq-ties nat_eq-equal

tie_from_test : (o : Ordering) → is_eq o ≡ true → o ≡ Equal
tie_from_test o e = (Equal-is o).0 e

policy_eq-equal : (x y : ReaderPolicy) → policy_eq x y ≡ true → x ≡ y
policy_eq-equal x y e = policy_cmp-exact x y (tie_from_test (policy_cmp x y) e)

pub policy_eq-decides : (x y : ReaderPolicy) → IsTrue (policy_eq x y) ↔ (x ≡ y)
policy_eq-decides x y = (policy_eq-equal x y, λ e. subst (λ z. policy_eq x z ≡ true) e (policy_eq-equivalence.refl x))

pub dedup-sorted_policies : (xs ys : List ReaderPolicy) → IsPermutation xs ys → IsSorted policy_cmp ys → dedup policy_eq ys ≡ ascending_set policy_cmp xs
dedup-sorted_policies = dedup-sorted policy_cmp-total policy_cmp-exact policy_eq policy_eq-equivalence (λ x y. refl) policy_eq-equal

-- ---- a written policy

-- the readers sorted, then each once, then without the owner
pub readers_with-made : (owner : ℕ) (readers sorted once kept : List ℕ) → IsPermutation readers sorted → IsSorted nat_cmp sorted → once ≡ dedup ◌==◌ sorted →
    kept ≡ filter (λ reader. not (reader == owner)) once → kept ≡ readers_with owner readers
readers_with-made owner readers sorted once kept moved ascending each_once filtered =
    filtered ∙ ap (λ items. filter (λ reader. not (reader == owner)) items) (each_once ∙ dedup-sorted_numbers readers sorted moved ascending)

pub readers_with-owner : (owner : ℕ) (readers : List ℕ) → ¬ Contains (readers_with owner readers) owner
readers_with-owner owner readers contained =
    let passes : not (owner == owner) ≡ true =
    All-contains (λ reader. not (reader == owner) ≡ true) (readers_with owner readers) owner
    (filter_passes (λ reader. not (reader == owner)) (ascending_set nat_cmp readers)) contained in
    let same = eq-eqb owner owner refl in
    absurd (cc)

pub IsCanonicalPolicy-written : (owner : ℕ) (readers : List ℕ) → IsCanonicalPolicy (written_policy owner readers)
IsCanonicalPolicy-written owner readers = record {
  readers_ascend =
      IsStrictlyIncreasing-from_sorted (readers_with owner readers)
      (IsStrictlySortedBy-filter nat_cmp (λ reader. not (reader == owner)) (ascending_set nat_cmp readers) (ascending_set-sorted nat_cmp_total readers));
  owner_left_out = readers_with-owner owner readers;
}

-- ---- a written label

-- the policies sorted, then each once
pub written_label-made : (policies sorted once : List ReaderPolicy) → IsPermutation policies sorted → IsSorted policy_cmp sorted → once ≡ dedup policy_eq sorted →
    once ≡ written_label policies
written_label-made policies sorted once moved ascending each_once = each_once ∙ dedup-sorted_policies policies sorted moved ascending

pub IsCanonicalLabel-written : (policies : List ReaderPolicy) → All IsCanonicalPolicy policies → IsCanonicalLabel (written_label policies)
IsCanonicalLabel-written policies each = record {
  policies_ascend = ascending_set-sorted policy_cmp-total policies;
  each_canonical =
      All-from_each IsCanonicalPolicy (written_label policies)
      (λ policy contained. each_from_All IsCanonicalPolicy policies each policy ((ascending_set-SameSet policy_cmp-exact policies policy).0 contained));
}

pub SameSet-written : (policies : List ReaderPolicy) → SameSet (written_label policies) policies
SameSet-written policies = ascending_set-SameSet policy_cmp-exact policies

-- a set of policies is one canonical label
pub IsCanonicalLabel-unique : (a b : Label) → IsCanonicalLabel a → IsCanonicalLabel b → SameSet a b → a ≡ b
IsCanonicalLabel-unique a b left right same = sorted_unique policy_cmp-total a b left.policies_ascend right.policies_ascend same

-- a canonical label is what is written with its policies
pub written_label-canonical : (label : Label) → IsCanonicalLabel label → written_label label ≡ label
written_label-canonical label canonical =
    sym (ascending_set-unique policy_cmp-total policy_cmp-exact label label canonical.policies_ascend (λ z. (λ c. c, λ c. c)))

pub IsCanonicalLabel-least : IsCanonicalLabel []
IsCanonicalLabel-least = record { policies_ascend = sorted_nil policy_cmp; each_canonical = All-nil IsCanonicalPolicy }

pub label_eq-decides : (x y : Label) → IsTrue (label_eq x y) ↔ (x ≡ y)
label_eq-decides x y = pointwise_decides policy_eq-decides x y

-- ---- the join

pub SameSet-joined : (left right : Label) → SameSet (joined left right) (left ++ right)
SameSet-joined left right = ascending_set-SameSet policy_cmp-exact (left ++ right)

pub IsCanonicalLabel-joined : (left right : Label) → IsCanonicalLabel left → IsCanonicalLabel right → IsCanonicalLabel (joined left right)
IsCanonicalLabel-joined left right a b =
    IsCanonicalLabel-written (left ++ right) (All-append IsCanonicalPolicy left right a.each_canonical b.each_canonical)
