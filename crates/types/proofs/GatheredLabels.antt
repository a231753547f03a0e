-- A label that is gathered component by component, its own policies apart from the numbers of the labels that it names.
use Rattle.types.proofs.Together.{policy_together}
use Rattle.std.proofs.Common.{◌≡◌, ℕ, ◌+◌, ◌<◌, ◌≤◌, List, [], ◌∷◌, ◌++◌, map, length, get_or, Ok, sym, ◌∙◌, ap, subst, inl, inr, append_assoc, append-nil}
use Rattle.std.specs.Prelude.{All, Contains}
use Rattle.std.proofs.lemmas.Grind.{flat_map-append}
use Rattle.std.proofs.lemmas.List.Elements.{All-nil, All-push, Contains-append_left, Contains-append_right, Contains-append_cases}
use Rattle.common.specs.Answers.{IfRefused}
use Rattle.common.specs.declared.fault.OrNoMemory.{OrNoMemory}
use Rattle.labels.specs.Label.{ReaderPolicy, Label}
use Rattle.labels.specs.LabelTable.{label_at, labels_of}
use Rattle.labels.specs.Canonical.{IsCanonicalPolicy, written_label}
use Rattle.labels.specs.PolicyOrder.{policy_cmp-total}
use Rattle.labels.specs.Sets.{SameSet}
use Rattle.labels.proofs.Ascending.{ascending_set-sorted, ascending_set-unique, SameSet-trans}
use Rattle.labels.proofs.Order.{policy_cmp-exact}
use Rattle.labels.proofs.Written.{SameSet-written}
use Rattle.syntax.specs.declared.tree.Component.{Component}
use Rattle.syntax.specs.Tree.{NameTree, PolicyComponent, VariableComponent, LabelTree, component_tree}
use Rattle.common.specs.declared.refusal.RefusalAt.{RefusalAt}
use Rattle.types.specs.declared.fault.TypeRefusalKind.{TypeRefusalKind}
use Rattle.common.specs.Results.{along}
use Rattle.types.specs.Finding.{IsRefusalOf}
use Rattle.types.specs.Views.{and_then}
use Rattle.types.specs.Labels.{LabelScope, policy_finding, component_finding, next_component, label_finding}
use Rattle.types.specs.VariableEntries.{label_with}
use Rattle.types.proofs.Loops.{GoesOn, starts, goes_further, goes_wrong, goes_to_end, then_ok, fails_later}

-- ---- sets of policies

same_with : (xs ys more : List ReaderPolicy) → SameSet xs ys → SameSet (xs ++ more) (ys ++ more)
same_with xs ys more same policy = (to, from)
  where
    to : Contains (xs ++ more) policy → Contains (ys ++ more) policy
    to there = elim (Contains-append_cases xs more policy there) [
      | inl first ↦ Contains-append_left ys more policy ((same policy).0 first)
      | inr second ↦ Contains-append_right ys more policy second
    ]

    from : Contains (ys ++ more) policy → Contains (xs ++ more) policy
    from there = elim (Contains-append_cases ys more policy there) [
      | inl first ↦ Contains-append_left xs more policy ((same policy).1 first)
      | inr second ↦ Contains-append_right xs more policy second
    ]

among_three : (xs ys zs : List ReaderPolicy) (policy : ReaderPolicy) → Contains ((xs ++ ys) ++ zs) policy → Contains ((xs ++ zs) ++ ys) policy
among_three xs ys zs policy there = elim (Contains-append_cases (xs ++ ys) zs policy there) [
  | inl before ↦ front before
  | inr last ↦ Contains-append_left (xs ++ zs) ys policy (Contains-append_right xs zs policy last)
]
  where
    front : Contains (xs ++ ys) policy → Contains ((xs ++ zs) ++ ys) policy
    front before = elim (Contains-append_cases xs ys policy before) [
      | inl first ↦ Contains-append_left (xs ++ zs) ys policy (Contains-append_left xs zs policy first)
      | inr second ↦ Contains-append_right (xs ++ zs) ys policy second
    ]

same_written : (xs ys : List ReaderPolicy) → SameSet xs ys → written_label xs ≡ written_label ys
same_written xs ys same =
    ascending_set-unique policy_cmp-total policy_cmp-exact ys (written_label xs)
    (ascending_set-sorted policy_cmp-total xs)
    (SameSet-trans (written_label xs) xs ys (SameSet-written xs) same)

-- ---- component by component

-- this many components of a label are gathered
pub record Gathers (scope : LabelScope) (labels : List Label) (written : List Component) (own : List ReaderPolicy) (named : List ℕ) (i : ℕ) : Type 0 where
  pub found : List ReaderPolicy
  pub made : GoesOn (next_component scope) component_tree written (along (next_component scope) [] (map component_tree written)) found i
  pub same : SameSet found (own ++ labels_of labels named)
  pub canonical : All IsCanonicalPolicy own

pub gathers_none : (scope : LabelScope) (labels : List Label) (written : List Component) (own : List ReaderPolicy) (named : List ℕ) → own ≡ [] → named ≡ []
    → Gathers scope labels written own named 0
gathers_none scope labels written own named no_own no_named = record {
  found = [];
  made = starts (next_component scope) component_tree written [] [] (λ i. []);
  same = subst (λ all. SameSet [] all) (sym (ap (λ list. list ++ labels_of labels named) no_own ∙ ap (labels_of labels) no_named)) (λ policy. (λ there. there, λ there. there));
  canonical = subst (All IsCanonicalPolicy) (sym no_own) (All-nil IsCanonicalPolicy);
}

module _ {scope : LabelScope} {labels : List Label} {written : List Component} {own : List ReaderPolicy} {named : List ℕ} {i : ℕ} (gathers : Gathers scope labels written own named i)
    (one : Component) (is : one ≡ get_or written i one) (within : i < length written) where
  module _ (owner : NameTree) (readers : List NameTree) (tree : component_tree one ≡ PolicyComponent owner readers) where
    pub policy_gathered : (policy : ReaderPolicy) → policy_finding scope.hierarchy owner readers ≡ Ok policy → IsCanonicalPolicy policy
        → Gathers scope labels written (own ++ policy ∷ []) named (i + 1)
    unfolding component_finding
    policy_gathered policy is_policy canonical =
        let before = gathers.found in
        let step : next_component scope before (component_tree one) ≡ Ok (before ++ policy ∷ []) =
        ap (next_component scope before) tree
        ∙ ap (λ looked. and_then looked (λ policies. Ok (before ++ policies))) (policy_together scope owner readers)
        ∙ ap (λ looked. and_then (and_then looked (λ policy. Ok (policy ∷ []))) (λ policies. Ok (before ++ policies))) is_policy in
        record {
          found = before ++ policy ∷ [];
          made = goes_further gathers.made one (before ++ policy ∷ []) is within step;
          same = SameSet-trans (before ++ policy ∷ []) ((own ++ labels_of labels named) ++ policy ∷ []) ((own ++ policy ∷ []) ++ labels_of labels named)
              (same_with before (own ++ labels_of labels named) (policy ∷ []) gathers.same)
              (λ other. (among_three own (labels_of labels named) (policy ∷ []) other, among_three own (policy ∷ []) (labels_of labels named) other));
          canonical = All-push IsCanonicalPolicy own policy gathers.canonical canonical;
        }

    pub policy_wrong : (fault : OrNoMemory (RefusalAt TypeRefusalKind)) → IfRefused (IsRefusalOf (policy_finding scope.hierarchy owner readers)) fault
        → IfRefused (IsRefusalOf (along (next_component scope) [] (map component_tree written))) fault
    unfolding component_finding
    policy_wrong fault wrong =
        goes_wrong gathers.made one fault is within
        (subst (λ component. IfRefused (IsRefusalOf (next_component scope gathers.found component)) fault) (sym tree)
        (subst (λ looked. IfRefused (IsRefusalOf (and_then looked (λ policies. Ok (gathers.found ++ policies)))) fault) (sym (policy_together scope owner readers))
        (fails_later (and_then (policy_finding scope.hierarchy owner readers) (λ policy. Ok (policy ∷ []))) (λ policies. Ok (gathers.found ++ policies)) fault
        (fails_later (policy_finding scope.hierarchy owner readers) (λ policy. Ok (policy ∷ [])) fault wrong))))

  module _ (name : NameTree) (tree : component_tree one ≡ VariableComponent name) where
    pub label_gathered : (number : ℕ) → component_finding scope (VariableComponent name) ≡ Ok (label_at labels number) → Gathers scope labels written own (named ++ number ∷ []) (i + 1)
    label_gathered number is_label =
        let before = gathers.found in
        let more = label_at labels number in
        let step : next_component scope before (component_tree one) ≡ Ok (before ++ more) =
        ap (next_component scope before) tree ∙ ap (λ looked. and_then looked (λ policies. Ok (before ++ policies))) is_label in
        let all : (own ++ labels_of labels named) ++ more ≡ own ++ labels_of labels (named ++ number ∷ []) =
        append_assoc own (labels_of labels named) more
        ∙ ap (λ list. own ++ (labels_of labels named ++ list)) (sym (append-nil more))
        ∙ ap (λ list. own ++ list) (sym (flat_map-append (label_at labels) named (number ∷ []))) in
        record {
          found = before ++ more;
          made = goes_further gathers.made one (before ++ more) is within step;
          same = subst (λ list. SameSet (before ++ more) list) all (same_with before (own ++ labels_of labels named) more gathers.same);
          canonical = gathers.canonical;
        }

    pub label_wrong : (fault : OrNoMemory (RefusalAt TypeRefusalKind)) → IfRefused (IsRefusalOf (component_finding scope (VariableComponent name))) fault
        → IfRefused (IsRefusalOf (along (next_component scope) [] (map component_tree written))) fault
    label_wrong fault wrong =
        goes_wrong gathers.made one fault is within
        (subst (λ component. IfRefused (IsRefusalOf (next_component scope gathers.found component)) fault) (sym tree)
        (fails_later (component_finding scope (VariableComponent name)) (λ policies. Ok (gathers.found ++ policies)) fault wrong))

-- ---- the whole label

module _ (scope : LabelScope) (label : LabelTree) (written : List Component) (components : map component_tree written ≡ label.components) where
  pub label_is_wrong : (fault : OrNoMemory (RefusalAt TypeRefusalKind)) → IfRefused (IsRefusalOf (along (next_component scope) [] (map component_tree written))) fault → IfRefused (IsRefusalOf (label_finding scope label)) fault
  unfolding label_finding
  label_is_wrong fault wrong =
      fails_later (along (next_component scope) [] label.components) (λ policies. Ok (written_label policies)) fault
      (subst (λ list. IfRefused (IsRefusalOf (along (next_component scope) [] list)) fault) components wrong)

  pub label_is_gathered : {labels : List Label} {own : List ReaderPolicy} {named : List ℕ} {i : ℕ} (gathers : Gathers scope labels written own named i) → length written ≤ i
      → label_finding scope label ≡ Ok (label_with labels (record { own = own; named = named }))
  unfolding label_finding
  label_is_gathered {labels} {own} {named} gathers all =
      then_ok (along (next_component scope) [] label.components) (λ policies. Ok (written_label policies)) gathers.found
      (ap (along (next_component scope) []) (sym components) ∙ goes_to_end gathers.made all)
      ∙ ap (λ one. Ok one) (same_written gathers.found (own ++ labels_of labels named) gathers.same)
