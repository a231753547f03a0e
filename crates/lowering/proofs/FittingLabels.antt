-- The labels of a graph's channels are within the limits of the module file.
use Rattle.std.proofs.Common.{◌≡◌, ◌≢◌, ℕ, ◌+◌, ◌^◌, ◌<◌, ◌≤◌, true, ltb, List, [], ◌∷◌, length, get_or, refl, subst, arith, sum_by}
use Rattle.std.specs.Prelude.{All, Contains}
use Rattle.std.specs.List.Sorted.{IsStrictlySortedBy}
use Rattle.std.specs.Ordering.{nat_cmp}
use Rattle.std.proofs.lemmas.Bool.{and_parts, not_from_false, false_from_ne_true, ltb-true, eqb-true}
use Rattle.std.proofs.lemmas.List.Elements.{All-weaker, Contains-get_or}
use Rattle.std.proofs.lemmas.List.Sums.{sum_by-cons, get_or-le-sum_by, AllPass-from_list_all}
use Rattle.std.proofs.lemmas.Map.Keys.{sorted_from_strictly_increasing}
use Rattle.principals.specs.ActsFor.{PrincipalHierarchy}
use Rattle.labels.specs.Label.{ReaderPolicy, Label}
use Rattle.labels.specs.Canonical.{policy_cmp, IsCanonicalPolicy, IsCanonicalLabel}
use Rattle.resolved.specs.WellFormed.{policy_fits, label_fits, label_nodes}
use Rattle.modules.specs.ByteFormat.{Fits}
use Rattle.modules.specs.Format.{is_above, policy as policy_field, label}
use Rattle.modules.specs.FormatParts.{reader_after, policy_after}
use Rattle.lowering.proofs.Fronts.{FitEach-from_fronts, All-at_seam, above_from_sorted}
use Rattle.lowering.proofs.FittingNames.{number_fits}

-- ---- policies

reader_fits : (count owner : ℕ) (front : List ℕ) (reader : ℕ) → count ≤ 256 → reader < count → reader ≢ owner → is_above nat_cmp front reader ≡ true → Fits (reader_after count owner front) reader
unfolding reader_after
reader_fits count owner front reader few there other above =
    ((number_fits count reader few there, not_from_false _ (false_from_ne_true _ (λ e. other (eqb-true reader owner e)))), above)

-- a policy of principals that are there, in the form in which it is kept, with not too many readers
pub record IsFitPolicy (count : ℕ) (policy : ReaderPolicy) : Type 0 where
  pub owner : policy.owner < count
  pub readers : All (λ reader. reader < count) policy.readers
  pub few : length policy.readers < 2 ^ 32
  pub canonical : IsCanonicalPolicy policy

others : (owner : ℕ) (readers : List ℕ) → ¬ Contains readers owner → All (λ reader. reader ≢ owner) readers
others owner readers h k d lt = λ e. h (subst (Contains readers) e (Contains-get_or readers k d lt))

fit_policy : (count : ℕ) (front : List ReaderPolicy) (policy : ReaderPolicy) → count ≤ 256 → IsFitPolicy count policy → is_above policy_cmp front policy ≡ true → Fits (policy_after count front) policy
unfolding policy_after policy_field reader_after
fit_policy count front policy few h above =
    let sorted : IsStrictlySortedBy nat_cmp policy.readers = sorted_from_strictly_increasing policy.readers h.canonical.readers_ascend in
    let beside : All (λ reader. reader ≢ policy.owner) policy.readers = others policy.owner policy.readers h.canonical.owner_left_out in
    let each = FitEach-from_fronts (λ before reader. Fits (reader_after count policy.owner before) reader) policy.readers (λ before reader rest e. reader_fits count policy.owner before reader few (All-at_seam before reader rest (λ r. r < count) (subst (All (λ r. r < count)) e h.readers)) (All-at_seam before reader rest (λ r. r ≢ policy.owner) (subst (All (λ r. r ≢ policy.owner)) e beside)) (above_from_sorted nat_cmp before reader rest (subst (IsStrictlySortedBy nat_cmp) e sorted))) in
    (((number_fits count policy.owner few h.owner, (h.few, refl, each)), refl), above)

-- ---- labels

record IsFitLabel (count : ℕ) (policies : Label) : Type 0 where
  ascend : IsStrictlySortedBy policy_cmp policies
  few : length policies < 2 ^ 32
  each : All (IsFitPolicy count) policies

fit_label : (count : ℕ) (policies : Label) → count ≤ 256 → IsFitLabel count policies → Fits (label count) policies
unfolding label policy_after
fit_label count policies few h = (
  h.few,
  refl,
  FitEach-from_fronts _ policies (λ front policy rest e. fit_policy count front policy few (All-at_seam front policy rest (IsFitPolicy count) (subst (All (IsFitPolicy count)) e h.each)) (above_from_sorted policy_cmp front policy rest (subst (IsStrictlySortedBy policy_cmp) e h.ascend))),
)

-- a list is no longer than a sum over it in which no term is 0
pub length_by_sum : {A : Type 0} (f : A → ℕ) (xs : List A) → ((x : A) → 1 ≤ f x) → length xs ≤ sum_by f xs
length_by_sum f [] some = omega arith
length_by_sum f (x ∷ xs) some = omega (arith, sum_by-cons f x xs, some x, length_by_sum f xs some)

-- ---- from a label of a well-formed program

policy_from : (h : PrincipalHierarchy) (policy : ReaderPolicy) → policy_fits h policy ≡ true → 1 + length policy.readers ≤ 1048576 → IsCanonicalPolicy policy → IsFitPolicy (length h.names) policy
policy_from h policy fits few canonical =
    let parts = and_parts _ _ fits in
    record {
      owner = ltb-true _ _ parts.0;
      readers = All-weaker (λ reader. ltb reader (length h.names) ≡ true) (λ reader. reader < length h.names) (λ reader e. ltb-true _ _ e) policy.readers (AllPass-from_list_all (λ reader. ltb reader (length h.names)) policy.readers parts.1);
      few = omega (arith, few);
      canonical = canonical;
    }

pub label-fits : (h : PrincipalHierarchy) (policies : Label) → length h.names ≤ 256 → label_fits h policies ≡ true → label_nodes policies ≤ 1048576 → IsCanonicalLabel policies → Fits (label (length h.names)) policies
label-fits h policies few_names fits few canonical =
    let size : ReaderPolicy → ℕ = λ policy. 1 + length policy.readers in
    let each : All (λ policy. policy_fits h policy ≡ true) policies = AllPass-from_list_all (policy_fits h) policies fits in
    fit_label (length h.names) policies few_names (record {
      ascend = canonical.policies_ascend;
      few = omega (arith, few, length_by_sum size policies (λ policy. omega arith));
      each = λ k d lt. policy_from h (get_or policies k d) (each k d lt) (omega (arith, few, get_or-le-sum_by size policies k d lt)) (canonical.each_canonical k d lt);
    })
