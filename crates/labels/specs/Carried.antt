-- Labels under another hierarchy: what a label of one hierarchy is in another, where its principals may have other numbers.
-- Source: our own; a flow holds on in every hierarchy that has more acts-for relations (Myers and Liskov 2000).
use Rattle.std.specs.Prelude.{◌≡◌, ℕ, ◌<◌, List, All, length, map, slice_get, slice_index_or, option_and_then, unwrap_or}
use Rattle.principals.specs.ActsFor.{PrincipalHierarchy, IsHierarchy, ActsFor, number_of, ContainsHierarchy}
use Rattle.labels.specs.Label.{Label, ReaderPolicy, FlowsTo}

-- a renumbering of principals keeps acts-for: what acts for another in the first hierarchy does so in the second
abbrev pub KeepsActsFor : (smaller larger : PrincipalHierarchy) → (ℕ → ℕ) → Type 0
KeepsActsFor smaller larger carry = (a b : ℕ) → ActsFor smaller.pairs a b → ActsFor larger.pairs (carry a) (carry b)

-- a policy with its principals renumbered
abbrev pub carried_policy : (ℕ → ℕ) → ReaderPolicy → ReaderPolicy
carried_policy carry policy = record { owner = carry policy.owner; readers = map carry policy.readers }

-- the number that a principal of the first hierarchy has in the second, by its name; 0 for a number without a name
abbrev pub number_by_name : (smaller larger : PrincipalHierarchy) → ℕ → ℕ
number_by_name smaller larger a = unwrap_or (option_and_then (λ name. number_of larger name) (slice_get smaller.names a)) 0

-- what a label of the first hierarchy is under the second: its principals are carried over by name
abbrev pub label_under : (smaller larger : PrincipalHierarchy) → Label → Label
label_under smaller larger label = map (carried_policy (number_by_name smaller larger)) label

-- ---- parts, by which code and proofs speak of them

-- a label with its principals renumbered
abbrev pub carried_label : (ℕ → ℕ) → Label → Label
carried_label carry label = map (carried_policy carry) label

-- a list of numbers as a renumbering: each number becomes the one at its index, 0 where there is none
abbrev pub numbered : List ℕ → ℕ → ℕ
numbered numbers a = slice_index_or numbers a 0

-- a label of a hierarchy: each number in it is that of a principal
abbrev pub IsPolicyOf : PrincipalHierarchy → ReaderPolicy → Type 0
IsPolicyOf h policy = (policy.owner < length h.names) × All (λ reader. reader < length h.names) policy.readers

abbrev pub IsLabelOf : PrincipalHierarchy → Label → Type 0
IsLabelOf h label = All (IsPolicyOf h) label

-- a flow holds on under every renumbering that keeps acts-for
abbrev pub FlowsAreKept : (smaller larger : PrincipalHierarchy) → (ℕ → ℕ) → Type 0
FlowsAreKept smaller larger carry =
    KeepsActsFor smaller larger carry → (from to : Label) → FlowsTo smaller from to
    → FlowsTo larger (carried_label carry from) (carried_label carry to)

-- a hierarchy that contains another one keeps its acts-for, by the names
abbrev pub NamesKeepActsFor : (smaller larger : PrincipalHierarchy) → Type 0
NamesKeepActsFor smaller larger =
    IsHierarchy smaller → IsHierarchy larger → ContainsHierarchy larger smaller → KeepsActsFor smaller larger (number_by_name smaller larger)

-- so a flow holds on, by the names, in every hierarchy that contains its own
abbrev pub FlowsStayByName : (smaller larger : PrincipalHierarchy) → Type 0
FlowsStayByName smaller larger =
    IsHierarchy smaller → IsHierarchy larger → ContainsHierarchy larger smaller → (from to : Label) → FlowsTo smaller from to
    → FlowsTo larger (label_under smaller larger from) (label_under smaller larger to)

-- under its own hierarchy a label is what it is
abbrev pub LabelsStayThemselves : PrincipalHierarchy → Type 0
LabelsStayThemselves h = IsHierarchy h → (label : Label) → IsLabelOf h label → label_under h h label ≡ label
