-- The labels that are found are of principals that are there.
use Rattle.types.proofs.Together.{policy_together}
use Rattle.std.proofs.Common.{◌≡◌, refl, ◌∙◌, Ok, ℕ, zero, suc, ◌+◌, ◌≤◌, List, [], ◌∷◌, ◌++◌, length, Bool, true, false, arith, sym, subst}
use Rattle.std.specs.Prelude.{IfOk, IfSome, Option, Some, None, cond, filter, slice_get, sum_by, nat_lt, not, bytes_eq, ◌==◌}
use Rattle.std.specs.List.{list_all}
use Rattle.std.specs.declared.cmp.Ordering.{Ordering}
use Rattle.std.specs.declared.cmp.Ordering.TheVariants.{Less, Equal, Greater}
use Rattle.std.specs.Ordering.{nat_cmp}
use Rattle.std.proofs.lemmas.Bool.{lt-ltb, and_from, and_parts}
use Rattle.std.proofs.lemmas.List.Folds.{list_all-append}
use Rattle.std.proofs.lemmas.List.Quantifiers.{position-Some}
use Rattle.std.proofs.lemmas.List.Sums.{sum_by-cons, sum_by_push}
use Rattle.std.proofs.lemmas.Result.{IfOk-weaker}
use Rattle.common.proofs.Cases.{filtered_length}
use Rattle.principals.specs.ActsFor.{PrincipalHierarchy, number_of}
use Rattle.labels.specs.Label.{ReaderPolicy, Label}
use Rattle.labels.specs.Sets.{by_order, with_element, ascending_set}
use Rattle.labels.specs.Canonical.{policy_cmp, readers_with, joined}
use Rattle.syntax.specs.Tree.{NameTree, ComponentTree, PolicyComponent, VariableComponent, LabelTree}
use Rattle.resolved.specs.declared.expression.Variable.{Variable}
use Rattle.resolved.specs.declared.expression.Variable.TheVariants.{Global, Local}
use Rattle.resolved.specs.Program.{GlobalEntry, SlotEntry, ThrownEntry}
use Rattle.resolved.specs.WellFormed.{policy_fits, label_fits, written_fits}
use Rattle.types.specs.Environment.{use_as, variable_of}
use Rattle.types.specs.declared.fault.TypeRefusalKind.TheVariants as refusals
use Rattle.common.specs.Results.{along}
use Rattle.types.specs.Finding.{Finding, found_or, put_last, of_option}
use Rattle.types.specs.Labels.{LabelScope, principal_finding, policy_finding, variable_label_finding, component_finding, next_component, label_finding, optional_label_finding}
use Rattle.types.specs.Resolution.{joined_all}
use Rattle.types.proofs.Passing.{then_finds, found_finds, any_finds}

-- ---- ascending sets

with_element_all : {X : Type 0} (test : X → Bool) (cmp : X → X → Ordering) (x : X) (ys : List X) → test x ≡ true → list_all test ys ≡ true
    → list_all test (with_element cmp x ys) ≡ true
with_element_all test cmp x [] here rest = and_from (test x) true here refl
with_element_all test cmp x (y ∷ ys) here rest =
    let parts = and_parts (test y) (list_all test ys) rest in
    go (with_element_all test cmp x ys here parts.1) (cmp x y)
  where
    go : list_all test (with_element cmp x ys) ≡ true → (order : Ordering)
        → list_all test (by_order order (x ∷ y ∷ ys) (y ∷ ys) (y ∷ with_element cmp x ys)) ≡ true
    go deeper Less = and_from (test x) (list_all test (y ∷ ys)) here rest
    go deeper Equal = rest
    go deeper Greater = and_from (test y) (list_all test (with_element cmp x ys)) (and_parts (test y) (list_all test ys) rest).0 deeper

set_all : {X : Type 0} (test : X → Bool) (cmp : X → X → Ordering) (xs : List X) → list_all test xs ≡ true
    → list_all test (ascending_set cmp xs) ≡ true
set_all test cmp [] passed = refl
set_all test cmp (x ∷ xs) passed =
    let parts = and_parts (test x) (list_all test xs) passed in
    with_element_all test cmp x (ascending_set cmp xs) parts.0 (set_all test cmp xs parts.1)

filter_all : {X : Type 0} (test keep : X → Bool) (xs : List X) → list_all test xs ≡ true → list_all test (filter keep xs) ≡ true
filter_all test keep [] passed = refl
filter_all {X = X} test keep (x ∷ xs) passed =
    let parts = and_parts (test x) (list_all test xs) passed in
    go (keep x) (filter_all test keep xs parts.1) parts.0
  where
    go : (kept : Bool) → list_all test (filter keep xs) ≡ true → test x ≡ true
        → list_all test (cond {A = List X} kept (x ∷ filter keep xs) (filter keep xs)) ≡ true
    go true rest here = and_from (test x) (list_all test (filter keep xs)) here rest
    go false rest here = rest

with_element_sum : {X : Type 0} (weight : X → ℕ) (cmp : X → X → Ordering) (x : X) (ys : List X)
    → sum_by weight (with_element cmp x ys) ≤ weight x + sum_by weight ys
with_element_sum weight cmp x [] = omega (arith, sum_by-cons weight x [])
with_element_sum weight cmp x (y ∷ ys) = go (with_element_sum weight cmp x ys) (cmp x y)
  where
    go : sum_by weight (with_element cmp x ys) ≤ weight x + sum_by weight ys → (order : Ordering)
        → sum_by weight (by_order order (x ∷ y ∷ ys) (y ∷ ys) (y ∷ with_element cmp x ys)) ≤ weight x + sum_by weight (y ∷ ys)
    go deeper Less = omega (arith, sum_by-cons weight x (y ∷ ys))
    go deeper Equal = omega arith
    go deeper Greater = omega (arith, sum_by-cons weight y ys, sum_by-cons weight y (with_element cmp x ys))

pub set_sum : {X : Type 0} (weight : X → ℕ) (cmp : X → X → Ordering) (xs : List X) → sum_by weight (ascending_set cmp xs) ≤ sum_by weight xs
set_sum weight cmp [] = omega arith
set_sum weight cmp (x ∷ xs) =
    omega (arith, with_element_sum weight cmp x (ascending_set cmp xs), set_sum weight cmp xs, sum_by-cons weight x xs)

-- ---- what is found of each element

pub passes_there : {X : Type 0} (test : X → Bool) (xs : List X) (n : ℕ) → list_all test xs ≡ true → IfSome (slice_get xs n) (λ x. test x ≡ true)
passes_there test [] n all = tt
passes_there test (x ∷ xs) zero all = (and_parts (test x) (list_all test xs) all).0
passes_there test (x ∷ xs) (suc n) all = passes_there test xs n (and_parts (test x) (list_all test xs) all).1

pub all_pushed : {X : Type 0} (test : X → Bool) (xs : List X) (x : X) → list_all test xs ≡ true → test x ≡ true → list_all test (xs ++ x ∷ []) ≡ true
all_pushed test xs x e f = list_all-append test xs (x ∷ []) ∙ and_from (list_all test xs) (list_all test (x ∷ [])) e (and_from (test x) true f refl)

each_passes : {X A : Type 0} (look : X → Finding A) (test : A → Bool) (weight : A → ℕ) (written : X → ℕ)
    → ((x : X) → IfOk (look x) (λ a. (test a ≡ true) × (weight a ≤ written x))) → (found : List A) (xs : List X) → list_all test found ≡ true
    → IfOk (along (put_last look) found xs) (λ made. (list_all test made ≡ true) × (sum_by weight made ≤ sum_by weight found + sum_by written xs))
each_passes look test weight written h found [] passed = (passed, omega arith)
each_passes look test weight written h found (x ∷ xs) passed =
    then_finds (put_last look found x) (λ next. along (put_last look) next xs)
    (λ next. (list_all test next ≡ true) × (sum_by weight next ≤ sum_by weight found + written x)) _
    (then_finds (look x) (λ made. Ok (found ++ made ∷ [])) (λ a. (test a ≡ true) × (weight a ≤ written x)) _ (h x)
    (λ a parts. (all_pushed test found a passed parts.0, omega (arith, sum_by_push weight found a, parts.1))))
    (λ next parts. IfOk-weaker (along (put_last look) next xs)
    (λ made. (list_all test made ≡ true) × (sum_by weight made ≤ sum_by weight next + sum_by written xs))
    (λ made. (list_all test made ≡ true) × (sum_by weight made ≤ sum_by weight found + sum_by written (x ∷ xs)))
    (λ made both_parts. (both_parts.0, omega (arith, both_parts.1, parts.1, sum_by-cons written x xs)))
    (each_passes look test weight written h next xs parts.0))

abbrev one_of : {X : Type 0} → X → ℕ
one_of x = 1

ones : {X : Type 0} (xs : List X) → sum_by one_of xs ≡ length xs
ones [] = refl
ones (x ∷ xs) = omega (arith, sum_by-cons one_of x xs, ones xs)

-- ---- labels

module _ (h : PrincipalHierarchy) where
  abbrev is_there : ℕ → Bool
  is_there principal = nat_lt principal (length h.names)

  principal_there : (name : NameTree) → IfOk (principal_finding h name) (λ number. (is_there number ≡ true) × (1 ≤ 1))
  unfolding principal_finding
  principal_there name = go (number_of h name.text) refl
    where
      go : (found : Option ℕ) → number_of h name.text ≡ found
          → IfOk (found_or refusals.UnknownPrincipal name.at found) (λ number. (is_there number ≡ true) × (1 ≤ 1))
      go None e = tt
      go (Some number) e = (lt-ltb number (length h.names) (position-Some (bytes_eq name.text) h.names number [] e).0, omega arith)

  abbrev pub policy_weight : ReaderPolicy → ℕ
  policy_weight policy = 1 + length policy.readers

  pub policy_there : (owner : NameTree) (readers : List NameTree)
      → IfOk (policy_finding h owner readers) (λ found. (policy_fits h found ≡ true) × (policy_weight found ≤ 2 + length readers))
  unfolding policy_finding
  policy_there owner readers =
      then_finds (principal_finding h owner) _ (λ number. (is_there number ≡ true) × (1 ≤ 1)) _ (principal_there owner) (λ number owner_there.
      then_finds (along (put_last (principal_finding h)) [] readers) _
      (λ numbers. (list_all is_there numbers ≡ true) × (sum_by one_of numbers ≤ 0 + sum_by one_of readers)) _
      (each_passes (principal_finding h) is_there one_of one_of principal_there [] readers refl) (λ numbers readers_there. (
        and_from (is_there number) (list_all is_there (readers_with number numbers)) owner_there.0
            (filter_all is_there (λ reader. not (reader == number)) (ascending_set nat_cmp numbers) (set_all is_there nat_cmp numbers readers_there.0)),
        omega (
          arith,
          filtered_length (λ reader. not (reader == number)) (ascending_set nat_cmp numbers),
          set_sum one_of nat_cmp numbers,
          ones (ascending_set nat_cmp numbers),
          ones numbers,
          ones readers,
          readers_there.1,
        ),
      )))

  pub joined_all_there : (label : Label) (throws : List ThrownEntry) → label_fits h label ≡ true
      → list_all (λ (thrown : ThrownEntry). label_fits h thrown.label) throws ≡ true → label_fits h (joined_all label throws) ≡ true
  joined_all_there label [] e f = e
  joined_all_there label (thrown ∷ rest) e f =
      let parts = and_parts (label_fits h thrown.label) (list_all (λ (other : ThrownEntry). label_fits h other.label) rest) f in
      joined_all_there (joined label thrown.label) rest
      (set_all (policy_fits h) policy_cmp (label ++ thrown.label)
      (list_all-append (policy_fits h) label thrown.label ∙ and_from (list_all (policy_fits h) label) (list_all (policy_fits h) thrown.label) e parts.0))
      parts.1

-- what a label may name is of principals that are there
abbrev pub GlobalsFit : PrincipalHierarchy → List GlobalEntry → Type 0
GlobalsFit h globals = list_all (λ (entry : GlobalEntry). label_fits h entry.label) globals ≡ true

abbrev pub SlotsFit : PrincipalHierarchy → List SlotEntry → Type 0
SlotsFit h slots = list_all (λ (slot : SlotEntry). written_fits h slot.written) slots ≡ true

module _ (scope : LabelScope) (globals_fit : GlobalsFit scope.hierarchy scope.globals) (slots_fit : SlotsFit scope.hierarchy scope.slots) where
  abbrev h : PrincipalHierarchy
  h = scope.hierarchy

  abbrev Fits : Label → Type 0
  Fits label = label_fits h label ≡ true

  of_written : (written : Option Label) → written_fits h written ≡ true → IfSome written Fits
  of_written None fit = tt
  of_written (Some label) fit = fit

  variable_there : (variable : Variable) (at : ℕ) → IfOk (variable_label_finding scope variable at) Fits
  unfolding variable_label_finding
  variable_there (Global number) at =
      then_finds (found_or refusals.UnknownName at (slice_get scope.globals number)) _ (λ (entry : GlobalEntry). Fits entry.label) Fits
      (found_finds refusals.UnknownName at (slice_get scope.globals number) (λ (entry : GlobalEntry). Fits entry.label)
      (passes_there (λ (entry : GlobalEntry). label_fits h entry.label) scope.globals number globals_fit))
      (λ entry fit. fit)
  variable_there (Local number) at =
      then_finds (found_or refusals.UnknownName at (slice_get scope.slots number)) _ (λ (slot : SlotEntry). written_fits h slot.written ≡ true) Fits
      (found_finds refusals.UnknownName at (slice_get scope.slots number) (λ (slot : SlotEntry). written_fits h slot.written ≡ true)
      (passes_there (λ (slot : SlotEntry). written_fits h slot.written) scope.slots number slots_fit))
      (λ slot fit. found_finds refusals.LabelNotWritten at slot.written Fits (of_written slot.written fit))

  component_there : (component : ComponentTree) → IfOk (component_finding scope component) Fits
  unfolding component_finding
  component_there (PolicyComponent owner readers) =
      subst (λ looked. IfOk looked Fits) (sym (policy_together scope owner readers))
      (then_finds (policy_finding h owner readers) _ (λ found. (policy_fits h found ≡ true) × (policy_weight h found ≤ 2 + length readers)) Fits
      (policy_there h owner readers) (λ policy there. and_from (policy_fits h policy) true there.0 refl))
  component_there (VariableComponent name) =
      then_finds (use_as variable_of (scope.names name.text) name.at) _ (λ one. Unit {0}) _ (any_finds (use_as variable_of (scope.names name.text) name.at))
      (λ variable nothing. variable_there variable name.at)

  components_there : (found : List ReaderPolicy) (components : List ComponentTree) → Fits found → IfOk (along (next_component scope) found components) Fits
  components_there found [] fit = fit
  components_there found (component ∷ components) fit =
      then_finds (next_component scope found component) (λ next. along (next_component scope) next components) Fits _
      (then_finds (component_finding scope component) _ Fits _ (component_there component) (λ policies there.
      list_all-append (policy_fits h) found policies ∙ and_from (list_all (policy_fits h) found) (list_all (policy_fits h) policies) fit there))
      (λ next fit_next. components_there next components fit_next)

  pub label_there : (label : LabelTree) → IfOk (label_finding scope label) Fits
  unfolding label_finding
  label_there label =
      then_finds (along (next_component scope) [] label.components) _ Fits _ (components_there [] label.components refl)
      (λ policies there. set_all (policy_fits h) policy_cmp policies there)

  pub optional_label_there : (label : Option LabelTree) → IfOk (optional_label_finding scope label) (λ found. written_fits h found ≡ true)
  unfolding of_option
  optional_label_there None = refl
  optional_label_there (Some label) = then_finds (label_finding scope label) _ Fits _ (label_there label) (λ found there. there)
