-- What holds of labels under another hierarchy: flows are kept, and under its own a label is what it is.
use Rattle.std.proofs.Common.{◌≡◌, refl, ℕ, zero, suc, ◌<◌, Bool, ◌||◌, List, [], ◌∷◌, map, length, get_or, inl, inr, ⊎_elim, ap}
use Rattle.std.specs.Prelude.{All, Any, option_and_then, slice_get, slice_index_or, unwrap_or}
use Rattle.std.specs.List.{list_any}
use Rattle.std.proofs.lemmas.List.Elements.{All-map}
use Rattle.std.proofs.lemmas.Option.{slice_get-get_or}
use Rattle.principals.specs.ActsFor.{PrincipalHierarchy, IsHierarchy, ActsFor, itself, written, through, HasName, number_of}
use Rattle.common.proofs.Elements.{Contains-first, Contains-later}
use Rattle.principals.proofs.Names.{position_of_name}
use Rattle.labels.specs.Carried.{KeepsActsFor, carried_policy, carried_label, number_by_name, numbered, FlowsAreKept, NamesKeepActsFor, IsPolicyOf, LabelsStayThemselves}
use Rattle.labels.specs.Label.{ReaderPolicy, PolicyAllows, PolicyFlowsTo}
use Rattle.labels.proofs.Elements.{All-from_each, each_from_All, Any-from_some, Any-elim}
use Rattle.labels.proofs.Flow.{FlowsTo-elim}
use Rattle.common.proofs.Cases.{contained_map}

carried-allows : (smaller larger : PrincipalHierarchy) (carry : ℕ → ℕ) → KeepsActsFor smaller larger carry →
    (policy : ReaderPolicy) (p : ℕ) → PolicyAllows smaller p policy → PolicyAllows larger (carry p) (carried_policy carry policy)
carried-allows smaller larger carry keeps policy p allowed =
    ⊎_elim
    (λ owner. inl (keeps p policy.owner owner))
    (λ some. Any-elim (λ reader. ActsFor smaller.pairs p reader) policy.readers (PolicyAllows larger (carry p) (carried_policy carry policy)) some
    (λ reader contained acts. inr (Any-from_some (λ r. ActsFor larger.pairs (carry p) r) (map carry policy.readers) (carry reader)
    (contained_map carry policy.readers reader contained) (keeps p reader acts))))
    allowed

carried-policy_flow : (smaller larger : PrincipalHierarchy) (carry : ℕ → ℕ) → KeepsActsFor smaller larger carry → (from to : ReaderPolicy) →
    PolicyFlowsTo smaller from to → PolicyFlowsTo larger (carried_policy carry from) (carried_policy carry to)
carried-policy_flow smaller larger carry keeps from to flow = (
  keeps to.owner from.owner flow.0,
  All-map (λ reader. PolicyAllows larger reader (carried_policy carry from)) carry to.readers
      (All-from_each (λ reader. PolicyAllows larger (carry reader) (carried_policy carry from)) to.readers
      (λ reader contained. carried-allows smaller larger carry keeps from reader
      (each_from_All (λ r. PolicyAllows smaller r from) to.readers flow.1 reader contained))),
)

pub carried-flow : (smaller larger : PrincipalHierarchy) (carry : ℕ → ℕ) → FlowsAreKept smaller larger carry
carried-flow smaller larger carry keeps from to flow =
    All-map (λ policy. Any (λ other. PolicyFlowsTo larger policy other) (carried_label carry to)) (carried_policy carry) from
    (All-from_each (λ policy. Any (λ other. PolicyFlowsTo larger (carried_policy carry policy) other) (carried_label carry to)) from
    (λ policy contained.
    let found = FlowsTo-elim smaller from to flow policy contained in
    Any-from_some (λ other. PolicyFlowsTo larger (carried_policy carry policy) other) (carried_label carry to) (carried_policy carry found.0)
    (contained_map (carried_policy carry) to found.0 found.1) (carried-policy_flow smaller larger carry keeps policy found.0 found.2)))

-- by name
named : (smaller larger : PrincipalHierarchy) → IsHierarchy larger → (a : ℕ) (name : List ℕ) (b : ℕ) → HasName smaller a name →
    HasName larger b name → number_by_name smaller larger a ≡ b
named smaller larger is a name b here there =
    rw (here, position_of_name larger.names is.different name b there) refl

pub names-keep : (smaller larger : PrincipalHierarchy) → NamesKeepActsFor smaller larger
names-keep smaller larger is_smaller is_larger contains a b (itself _) = itself (number_by_name smaller larger a)
names-keep smaller larger is_smaller is_larger contains a b (through _ c _ h i) =
    through (number_by_name smaller larger a) (number_by_name smaller larger c) (number_by_name smaller larger b)
    (names-keep smaller larger is_smaller is_larger contains a c h) (names-keep smaller larger is_smaller is_larger contains c b i)
names-keep smaller larger is_smaller is_larger contains a b (written _ _ pair) =
    let below = each_from_All (λ pair. (pair.0 < length smaller.names) × (pair.1 < length smaller.names)) smaller.pairs is_smaller.there (a, b) pair in
    let name_a : HasName smaller a (get_or smaller.names a []) = slice_get-get_or smaller.names a [] below.0 in
    let name_b : HasName smaller b (get_or smaller.names b []) = slice_get-get_or smaller.names b [] below.1 in
    let found = contains.acts (get_or smaller.names a []) (get_or smaller.names b []) (a, b, name_a, name_b, written a b pair) in
    rw (
      named smaller larger is_larger a (get_or smaller.names a []) found.0 name_a found.2,
      named smaller larger is_larger b
          (get_or smaller.names b []) found.1 name_b found.3,
    ) found.4

-- ---- under its own hierarchy

own-number : (h : PrincipalHierarchy) → IsHierarchy h → (a : ℕ) → a < length h.names → number_by_name h h a ≡ a
own-number h is a inside =
    let name : HasName h a (get_or h.names a []) = slice_get-get_or h.names a [] inside in
    named h h is a (get_or h.names a []) a name name

map_itself : {X : Type 0} (f : X → X) (P : X → Type 0) → ((x : X) → P x → f x ≡ x) → (xs : List X) → All P xs → map f xs ≡ xs
map_itself f P same [] all = refl
map_itself f P same (x ∷ xs) all =
    λ i. same x (each_from_All P (x ∷ xs) all x (Contains-first x xs)) i
    ∷ map_itself f P same xs (All-from_each P xs (λ y there. each_from_All P (x ∷ xs) all y (Contains-later x xs y there))) i

own-policy : (h : PrincipalHierarchy) → IsHierarchy h → (policy : ReaderPolicy) → IsPolicyOf h policy →
    carried_policy (number_by_name h h) policy ≡ policy
own-policy h is policy inside =
    let owner = own-number h is policy.owner inside.0 in
    let readers = map_itself (number_by_name h h) (λ reader. reader < length h.names) (own-number h is) policy.readers inside.1 in
    λ i. record { owner = owner i; readers = readers i }

pub own-label : (h : PrincipalHierarchy) → LabelsStayThemselves h
own-label h is label inside = map_itself (carried_policy (number_by_name h h)) (IsPolicyOf h) (own-policy h is) label inside

-- ---- the tests of reading

-- some reader of a carried policy passes where some reader passes once it is carried
pub any_carried : (test : ℕ → Bool) (carry : ℕ → ℕ) (readers : List ℕ) → list_any (λ reader. test (carry reader)) readers ≡ list_any test (map carry readers)
any_carried test carry [] = refl
any_carried test carry (reader ∷ readers) = ap (λ rest. test (carry reader) || rest) (any_carried test carry readers)

-- the numbers of the names, in their order, are the numbers by name
pub numbers-by_name : (smaller larger : PrincipalHierarchy) (a : ℕ)
    → numbered (map (λ name. unwrap_or (number_of larger name) 0) smaller.names) a ≡ number_by_name smaller larger a
numbers-by_name smaller larger a = go smaller.names a
  where
    go : (names : List (List ℕ)) (k : ℕ)
        → slice_index_or (map (λ name. unwrap_or (number_of larger name) 0) names) k 0 ≡ unwrap_or (option_and_then (λ name. number_of larger name) (slice_get names k)) 0
    go [] k = refl
    go (name ∷ names) zero = refl
    go (name ∷ names) (suc k) = go names k
