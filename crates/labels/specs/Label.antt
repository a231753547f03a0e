-- Labels, who may read what they guard, and what may flow where: the decentralized label model with its complete relabelling
-- rule. Each definition stands twice: as a relation, to be read and believed, and as a test that computes its answer. The
-- contracts of `flows` and `may_read` state both, and `tests_decide` in src/laws.rt proves that the two say the same.
-- With Alice, Bob and Carol, of whom Carol acts for Bob, `{Alice: Bob}` is one policy, whose owner is Alice and whose one reader
-- is Bob. Alice, Bob and Carol may read it, and Alice alone may read `{Alice:}`; `{Alice: Bob}` flows to `{Alice:}` and not back.
-- Source: Myers and Liskov 1997 and 2000.
use Rattle.std.specs.Prelude.{ℕ, ◌⊎◌, List, Bool, ◌&&◌, ◌||◌, All, Any}
use Rattle.std.specs.List.{list_any, list_all}
use Rattle.principals.specs.ActsFor.{PrincipalHierarchy, ActsFor, acts_for}

-- a policy: its owner, and the readers whom the owner allows beside itself
pub record ReaderPolicy : Type 0 where
  pub owner : ℕ
  pub readers : List ℕ

-- a label is a set of policies, in a list; the join of two is the union of the sets, `++` on lists, and the least is empty
abbrev pub Label : Type 0
Label = List ReaderPolicy

-- a policy allows a principal: it acts for the policy's owner or for some of its readers
abbrev pub PolicyAllows : PrincipalHierarchy → ℕ → ReaderPolicy → Type 0
PolicyAllows h p policy = ActsFor h.pairs p policy.owner ⊎ Any (λ reader. ActsFor h.pairs p reader) policy.readers

-- a principal may read what a label guards: each policy of the label allows it
abbrev pub MayRead : PrincipalHierarchy → ℕ → Label → Type 0
MayRead h p label = All (λ policy. PolicyAllows h p policy) label

-- a policy flows to another one: the other one's owner acts for its owner, and it allows each of the other one's readers
abbrev pub PolicyFlowsTo : PrincipalHierarchy → ReaderPolicy → ReaderPolicy → Type 0
PolicyFlowsTo h from to = ActsFor h.pairs to.owner from.owner × All (λ reader. PolicyAllows h reader from) to.readers

-- a label covers a policy: the policy flows to some policy of the label
abbrev pub Covers : PrincipalHierarchy → Label → ReaderPolicy → Type 0
Covers h to policy = Any (λ other. PolicyFlowsTo h policy other) to

-- a label flows to another one: the other one covers each of its policies
abbrev pub FlowsTo : PrincipalHierarchy → Label → Label → Type 0
FlowsTo h from to = All (λ policy. Covers h to policy) from

-- the tests: whether a policy allows a principal
abbrev pub policy_allows : PrincipalHierarchy → ℕ → ReaderPolicy → Bool
policy_allows h p policy =
    acts_for h.pairs p policy.owner || list_any (λ reader. acts_for h.pairs p reader) policy.readers

-- whether a principal may read what a label guards
abbrev pub may_read : PrincipalHierarchy → ℕ → Label → Bool
may_read h p label = list_all (λ policy. policy_allows h p policy) label

-- whether a policy flows to another one
abbrev pub policy_flows : PrincipalHierarchy → ReaderPolicy → ReaderPolicy → Bool
policy_flows h from to =
    acts_for h.pairs to.owner from.owner && list_all (λ reader. policy_allows h reader from) to.readers

-- whether a label covers a policy
abbrev pub covers : PrincipalHierarchy → Label → ReaderPolicy → Bool
covers h to policy = list_any (λ other. policy_flows h policy other) to

-- whether a label flows to another one
abbrev pub flows : PrincipalHierarchy → Label → Label → Bool
flows h from to = list_all (λ policy. covers h to policy) from
