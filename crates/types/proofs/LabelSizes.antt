-- A label that is found has each of its policies once, and each is written before it or in it: so it has no more nodes than those.
use Rattle.types.proofs.Together.{policy_together}
use Rattle.std.proofs.Common.{◌≡◌, sym, ap, subst, ℕ, ◌+◌, ◌≤◌, List, [], ◌∷◌, ◌++◌, length, append_assoc, true, inl, inr, Ok, Err, arith}
use Rattle.std.specs.Prelude.{◌⊎◌, Contains, IfOk, IfSome, Option, Some, None, slice_get, sum_by}
use Rattle.std.specs.declared.cmp.Ordering.{Ordering}
use Rattle.std.specs.declared.cmp.Ordering.TheVariants.{Less, Equal, Greater}
use Rattle.std.proofs.lemmas.List.Elements.{Contains-append_cases, Contains-append_left, Contains-append_right}
use Rattle.std.proofs.lemmas.List.Sums.{sum_by-append, sum_by-cons}
use Rattle.std.proofs.lemmas.Result.{IfOk-weaker}
use Rattle.labels.specs.Label.{ReaderPolicy, Label}
use Rattle.labels.specs.Sets.{SameSet, by_order, with_element, ascending_set}
use Rattle.labels.specs.Canonical.{policy_cmp, written_label, IsCanonicalLabel}
use Rattle.labels.specs.PolicyOrder.{policy_cmp-total}
use Rattle.labels.proofs.Ascending.{ascending_set-sorted, ascending_set-SameSet, ascending_set-unique}
use Rattle.labels.proofs.Order.{policy_cmp-exact}
use Rattle.labels.proofs.Written.{SameSet-written, written_label-canonical}
use Rattle.syntax.specs.Nodes.{component_nodes, label_nodes as written_nodes}
use Rattle.syntax.specs.Tree.{ComponentTree, PolicyComponent, VariableComponent, LabelTree}
use Rattle.resolved.specs.declared.expression.Variable.{Variable}
use Rattle.resolved.specs.declared.expression.Variable.TheVariants.{Global, Local}
use Rattle.resolved.specs.Program.{GlobalEntry, SlotEntry}
use Rattle.resolved.specs.WellFormed.{policy_fits, label_nodes}
use Rattle.types.specs.Environment.{use_as, variable_of}
use Rattle.types.specs.declared.fault.TypeRefusalKind.TheVariants as refusals
use Rattle.common.specs.Results.{along, ◌>>=◌}
use Rattle.types.specs.Finding.{Finding, found_or}
use Rattle.types.specs.Labels.{LabelScope, policy_finding, variable_label_finding, component_finding, next_component, label_finding}
use Rattle.types.proofs.ChannelLabels.{label_canonical}
use Rattle.types.proofs.Passing.{then_finds, found_finds, any_finds}
use Rattle.types.proofs.WellFormedLabels.{policy_there, policy_weight, set_sum}

-- ---- sets

with_element_more : {X : Type 0} (weight : X → ℕ) (cmp : X → X → Ordering) (x : X) (ys : List X) → sum_by weight ys ≤ sum_by weight (with_element cmp x ys)
with_element_more weight cmp x [] = omega arith
with_element_more weight cmp x (y ∷ ys) = go (with_element_more weight cmp x ys) (cmp x y)
  where
    go : sum_by weight ys ≤ sum_by weight (with_element cmp x ys) → (order : Ordering)
        → sum_by weight (y ∷ ys) ≤ sum_by weight (by_order order (x ∷ y ∷ ys) (y ∷ ys) (y ∷ with_element cmp x ys))
    go deeper Less = omega (arith, sum_by-cons weight x (y ∷ ys))
    go deeper Equal = omega arith
    go deeper Greater = omega (arith, deeper, sum_by-cons weight y ys, sum_by-cons weight y (with_element cmp x ys))

set_more : {X : Type 0} (weight : X → ℕ) (cmp : X → X → Ordering) (xs ys : List X) → sum_by weight (ascending_set cmp ys) ≤ sum_by weight (ascending_set cmp (xs ++ ys))
set_more weight cmp [] ys = omega arith
set_more weight cmp (x ∷ xs) ys = omega (arith, set_more weight cmp xs ys, with_element_more weight cmp x (ascending_set cmp (xs ++ ys)))

abbrev pub policies_weight : List ReaderPolicy → ℕ
policies_weight policies = sum_by (λ (policy : ReaderPolicy). 1 + length policy.readers) policies

-- ---- labels of written policies

-- a canonical label all of whose policies are among these
pub record IsOf (written : List ReaderPolicy) (label : Label) : Type 0 where
  pub canonical : IsCanonicalLabel label
  pub within : (policy : ReaderPolicy) → Contains label policy → Contains written policy

pub is_of_more : (written more : List ReaderPolicy) (label : Label) → IsOf written label → IsOf (written ++ more) label
is_of_more written more label is = record {
  canonical = is.canonical;
  within = λ policy contained. Contains-append_left written more policy (is.within policy contained);
}

pub label_small : (written : List ReaderPolicy) (label : Label) → IsOf written label → label_nodes label ≤ policies_weight written
label_small written label is =
    let weight : ReaderPolicy → ℕ = λ policy. 1 + length policy.readers in
    let among : SameSet (ascending_set policy_cmp (written ++ label)) written =
    λ policy. (
      λ contained. kept policy (Contains-append_cases written label policy ((ascending_set-SameSet policy_cmp-exact (written ++ label) policy).0 contained)),
      λ contained. (ascending_set-SameSet policy_cmp-exact (written ++ label) policy).1 (Contains-append_left written label policy contained),
    ) in
    let same : ascending_set policy_cmp (written ++ label) ≡ ascending_set policy_cmp written =
    ascending_set-unique policy_cmp-total policy_cmp-exact written (ascending_set policy_cmp (written ++ label))
    (ascending_set-sorted policy_cmp-total (written ++ label)) among in
    let own : policies_weight (written_label label) ≡ policies_weight label = ap policies_weight (written_label-canonical label is.canonical) in
    let all : policies_weight (ascending_set policy_cmp (written ++ label)) ≡ policies_weight (ascending_set policy_cmp written) = ap policies_weight same in
    omega (arith, own, all, set_more weight policy_cmp written label, set_sum weight policy_cmp written)
  where
    kept : (policy : ReaderPolicy) → Contains written policy ⊎ Contains label policy → Contains written policy
    kept policy (inl there) = there
    kept policy (inr there) = is.within policy there

-- ---- what is found

pub both_find : {A : Type 0} (looked : Finding A) (P Q : A → Type 0) → IfOk looked P → IfOk looked Q → IfOk looked (λ a. P a × Q a)
both_find (Ok a) P Q p q = (p, q)
both_find (Err fault) P Q p q = tt

-- policies of which each is written, those after the others with this many nodes
record AreOf (written : List ReaderPolicy) (nodes : ℕ) (found : List ReaderPolicy) : Type 0 where
  pub more : List ReaderPolicy
  pub few : policies_weight more ≤ nodes
  pub within : (policy : ReaderPolicy) → Contains found policy → Contains (written ++ more) policy

both_are : (written : List ReaderPolicy) (m n : ℕ) (found policies : List ReaderPolicy) → AreOf written m found → AreOf written n policies → AreOf written (m + n) (found ++ policies)
both_are written m n found policies first second = record {
  more = first.more ++ second.more;
  few = omega (arith, sum_by-append (λ (policy : ReaderPolicy). 1 + length policy.readers) first.more second.more, first.few, second.few);
  within = λ policy contained. go policy (Contains-append_cases found policies policy contained);
}
  where
    in_second : (policy : ReaderPolicy) → Contains written policy ⊎ Contains second.more policy → Contains (written ++ (first.more ++ second.more)) policy
    in_second policy (inl there) = Contains-append_left written (first.more ++ second.more) policy there
    in_second policy (inr there) =
        Contains-append_right written (first.more ++ second.more) policy (Contains-append_right first.more second.more policy there)

    go : (policy : ReaderPolicy) → Contains found policy ⊎ Contains policies policy → Contains (written ++ (first.more ++ second.more)) policy
    go policy (inl there) =
        subst (λ all. Contains all policy) (append_assoc written first.more second.more)
        (Contains-append_left (written ++ first.more) second.more policy (first.within policy there))
    go policy (inr there) = in_second policy (Contains-append_cases written second.more policy (second.within policy there))

-- labels that may name globals alone
module _ (scope : LabelScope) (written : List ReaderPolicy) (globals : (number : ℕ) → IfSome (slice_get scope.globals number) (λ (entry : GlobalEntry). IsOf written entry.label))
    (no_slots : scope.slots ≡ []) where
  label_of_variable : (variable : Variable) (at : ℕ) → IfOk (variable_label_finding scope variable at) (IsOf written)
  unfolding variable_label_finding
  label_of_variable (Global number) at =
      then_finds (found_or refusals.UnknownName at (slice_get scope.globals number)) _ (λ (entry : GlobalEntry). IsOf written entry.label) (IsOf written)
      (found_finds refusals.UnknownName at (slice_get scope.globals number) (λ (entry : GlobalEntry). IsOf written entry.label) (globals number)) (λ entry is. is)
  label_of_variable (Local number) at =
      subst (λ slots. IfOk (found_or refusals.UnknownName at (slice_get slots number) >>= λ (slot : SlotEntry). found_or refusals.LabelNotWritten at slot.written) (IsOf written))
      (sym no_slots) tt

  component_of : (component : ComponentTree) → IfOk (component_finding scope component) (AreOf written (component_nodes component))
  unfolding component_finding
  component_of (PolicyComponent owner readers) =
      subst (λ looked. IfOk looked (AreOf written (component_nodes (PolicyComponent owner readers)))) (sym (policy_together scope owner readers))
      (then_finds (policy_finding scope.hierarchy owner readers) _
      (λ found. (policy_fits scope.hierarchy found ≡ true) × (policy_weight scope.hierarchy found ≤ 2 + length readers)) _
      (policy_there scope.hierarchy owner readers) (λ policy there. record {
        more = policy ∷ [];
        few = omega (arith, there.1, sum_by-cons (λ (one : ReaderPolicy). 1 + length one.readers) policy []);
        within = λ other contained. Contains-append_right written (policy ∷ []) other contained;
      }))
  component_of (VariableComponent name) =
      then_finds (use_as variable_of (scope.names name.text) name.at) _ (λ one. Unit {0}) _ (any_finds (use_as variable_of (scope.names name.text) name.at))
      (λ variable nothing.
      IfOk-weaker (variable_label_finding scope variable name.at) (IsOf written) (AreOf written 1)
      (λ label is. record { more = []; few = omega arith; within = λ policy contained. Contains-append_left written [] policy (is.within policy contained) })
      (label_of_variable variable name.at))

  components_of : (nodes : ℕ) (found : List ReaderPolicy) (components : List ComponentTree) → AreOf written nodes found
      → IfOk (along (next_component scope) found components) (AreOf written (nodes + sum_by component_nodes components))
  components_of nodes found [] are = record { more = are.more; few = omega (arith, are.few); within = are.within }
  components_of nodes found (component ∷ components) are =
      then_finds (next_component scope found component) (λ next. along (next_component scope) next components) (AreOf written (nodes + component_nodes component)) _
      (then_finds (component_finding scope component) _ (AreOf written (component_nodes component)) _ (component_of component)
      (λ policies more. both_are written nodes (component_nodes component) found policies are more))
      (λ next are_next.
      IfOk-weaker (along (next_component scope) next components) (AreOf written (nodes + component_nodes component + sum_by component_nodes components)) _
      (λ all are_all. record { more = are_all.more; few = omega (arith, are_all.few, sum_by-cons component_nodes component components); within = are_all.within })
      (components_of (nodes + component_nodes component) next components are_next))

  nothing_found : AreOf written 0 []
  nothing_found = record { more = []; few = omega arith; within = λ policy contained. Contains-append_right written [] policy contained }

  label_parts : (label : LabelTree) → IfOk (label_finding scope label) (AreOf written (sum_by component_nodes label.components))
  unfolding label_finding
  label_parts label =
      then_finds (along (next_component scope) [] label.components) _ (AreOf written (0 + sum_by component_nodes label.components)) _
      (components_of 0 [] label.components nothing_found)
      (λ policies are. record {
        more = are.more;
        few = omega (arith, are.few);
        within = λ policy contained. are.within policy ((SameSet-written policies policy).0 contained);
      })

  -- of the policies written before and others, which are written in it
  pub label_of : (label : LabelTree)
      → IfOk (label_finding scope label) (λ found. (more : List ReaderPolicy) × (1 + policies_weight more ≤ written_nodes label) × IsOf (written ++ more) found)
  label_of label =
      IfOk-weaker (label_finding scope label) (λ found. AreOf written (sum_by component_nodes label.components) found × IsCanonicalLabel found) _
      (λ found parts. (parts.0.more, omega (arith, parts.0.few), record { canonical = parts.1; within = parts.0.within }))
      (both_find (label_finding scope label) (AreOf written (sum_by component_nodes label.components)) IsCanonicalLabel (label_parts label)
      (label_canonical scope canonical_globals no_slots label))
    where
      canonical_globals : (number : ℕ) → IfSome (slice_get scope.globals number) (λ (entry : GlobalEntry). IsCanonicalLabel entry.label)
      canonical_globals number = go (slice_get scope.globals number) (globals number)
        where
          go : (found : Option GlobalEntry) → IfSome found (λ (entry : GlobalEntry). IsOf written entry.label) → IfSome found (λ (entry : GlobalEntry). IsCanonicalLabel entry.label)
          go None is = tt
          go (Some entry) is = is.canonical
