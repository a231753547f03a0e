-- The tests of reading and flow say what the relations say.
use Rattle.std.proofs.Common.{◌≡◌, ℕ, Bool, true, List, ◌&&◌, ◌||◌, ◌⊎◌, ◌↔◌, ⊎_elim, inl, inr}
use Rattle.std.specs.Prelude.{All, Any, IsTrue}
use Rattle.std.specs.List.{list_any, list_all}
use Rattle.std.proofs.lemmas.Bool.{or_left, or_right, or_cases, and_from, and_parts}
use Rattle.std.proofs.lemmas.List.Elements.{All-weaker}
use Rattle.std.proofs.lemmas.List.Folds.{Any-from_list_any, list_any-from_Any}
use Rattle.std.proofs.lemmas.List.Sums.{AllPass-from_list_all, list_all-from_AllPass}
use Rattle.principals.specs.ActsFor.{PrincipalHierarchy, ActsFor, acts_for}
use Rattle.principals.proofs.Closure.{acts_for-decides}
use Rattle.labels.specs.Label.{ReaderPolicy, Label, PolicyAllows, MayRead, PolicyFlowsTo, Covers, FlowsTo, policy_allows, may_read, policy_flows, covers, flows}
use Rattle.labels.proofs.Elements.{Any-weaker}

-- a test of both sides, and one of either
both_decide : {P Q : Type 0} (a b : Bool) → (IsTrue a ↔ P) → (IsTrue b ↔ Q) → IsTrue (a && b) ↔ (P × Q)
both_decide a b left right =
    (λ t. let parts = and_parts a b t in (left.0 parts.0, right.0 parts.1), λ facts. and_from a b (left.1 facts.0) (right.1 facts.1))

either_decides : {P Q : Type 0} (a b : Bool) → (IsTrue a ↔ P) → (IsTrue b ↔ Q) → IsTrue (a || b) ↔ (P ⊎ Q)
either_decides a b left right = (
  λ t. ⊎_elim (λ u. inl (left.0 u)) (λ u. inr (right.0 u)) (or_cases a b t),
  ⊎_elim (λ fact. or_left a b (left.1 fact)) (λ fact. or_right a b (right.1 fact)),
)

-- a test of each element, and one of some element
pub list_all-decides : {X : Type 0} (test : X → Bool) (P : X → Type 0) (xs : List X) → ((x : X) → IsTrue (test x) ↔ P x) → IsTrue (list_all test xs) ↔ All P xs
list_all-decides test P xs each = (
  λ t. All-weaker (λ x. test x ≡ true) P (λ x. (each x).0) xs (AllPass-from_list_all test xs t),
  λ all. list_all-from_AllPass test xs (All-weaker P (λ x. test x ≡ true) (λ x. (each x).1) xs all),
)

pub list_any-decides : {X : Type 0} (test : X → Bool) (P : X → Type 0) (xs : List X) → ((x : X) → IsTrue (test x) ↔ P x) → IsTrue (list_any test xs) ↔ Any P xs
list_any-decides test P xs each = (
  λ t. Any-weaker (λ x. test x ≡ true) P xs xs (λ x c. c) (λ x. (each x).0) (Any-from_list_any test xs t),
  λ some. list_any-from_Any test xs (Any-weaker P (λ x. test x ≡ true) xs xs (λ x c. c) (λ x. (each x).1) some),
)

pub policy_allows-decides : (h : PrincipalHierarchy) (p : ℕ) (policy : ReaderPolicy) → IsTrue (policy_allows h p policy) ↔ PolicyAllows h p policy
policy_allows-decides h p policy =
    either_decides (acts_for h.pairs p policy.owner) (list_any (λ reader. acts_for h.pairs p reader) policy.readers)
    (acts_for-decides h.pairs p policy.owner)
    (list_any-decides (λ reader. acts_for h.pairs p reader) (λ reader. ActsFor h.pairs p reader) policy.readers (acts_for-decides h.pairs p))

pub may_read-decides : (h : PrincipalHierarchy) (p : ℕ) (label : Label) → IsTrue (may_read h p label) ↔ MayRead h p label
may_read-decides h p label =
    list_all-decides (λ policy. policy_allows h p policy) (λ policy. PolicyAllows h p policy) label (policy_allows-decides h p)

pub policy_flows-decides : (h : PrincipalHierarchy) (from to : ReaderPolicy) → IsTrue (policy_flows h from to) ↔ PolicyFlowsTo h from to
policy_flows-decides h from to =
    both_decide (acts_for h.pairs to.owner from.owner) (list_all (λ reader. policy_allows h reader from) to.readers)
    (acts_for-decides h.pairs to.owner from.owner)
    (list_all-decides (λ reader. policy_allows h reader from) (λ reader. PolicyAllows h reader from) to.readers
    (λ reader. policy_allows-decides h reader from))

pub covers-decides : (h : PrincipalHierarchy) (to : Label) (policy : ReaderPolicy) → IsTrue (covers h to policy) ↔ Covers h to policy
covers-decides h to policy =
    list_any-decides (λ other. policy_flows h policy other) (λ other. PolicyFlowsTo h policy other) to (policy_flows-decides h policy)

pub flows-decides : (h : PrincipalHierarchy) (from to : Label) → IsTrue (flows h from to) ↔ FlowsTo h from to
flows-decides h from to =
    list_all-decides (λ policy. covers h to policy) (λ policy. Covers h to policy) from (covers-decides h to)
