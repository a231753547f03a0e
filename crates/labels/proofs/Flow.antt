-- The laws of reading and of flow, as relations. They rest on acts-for being reflexive and transitive, and on nothing else.
use Rattle.std.proofs.Common.{ℕ, [], ◌++◌, ◌↔◌, ⊎_elim, inl, inr}
use Rattle.std.specs.Prelude.{Any, Contains}
use Rattle.std.proofs.lemmas.List.Elements.{Contains-append_left, Contains-append_right, Contains-append_cases, All-nil}
use Rattle.principals.specs.ActsFor.{PrincipalHierarchy, ActsFor, itself, through}
use Rattle.labels.specs.Label.{ReaderPolicy, Label, PolicyAllows, MayRead, PolicyFlowsTo, FlowsTo}
use Rattle.lattices.specs.Lattice.{IsLattice}
use Rattle.labels.specs.Sets.{SameSet}
use Rattle.labels.proofs.Elements.{All-from_each, each_from_All, Any-from_some, Any-elim}

-- whoever acts for a principal whom a policy allows is allowed too
pub PolicyAllows-acting : (h : PrincipalHierarchy) (policy : ReaderPolicy) (p q : ℕ) → ActsFor h.pairs q p → PolicyAllows h p policy → PolicyAllows h q policy
PolicyAllows-acting h policy p q acts allowed =
    ⊎_elim
    (λ owner. inl (through q p policy.owner acts owner))
    (λ some. Any-elim (λ reader. ActsFor h.pairs p reader) policy.readers (PolicyAllows h q policy) some
    (λ reader contained reads. inr (Any-from_some (λ r. ActsFor h.pairs q r) policy.readers reader contained (through q p reader acts reads))))
    allowed

pub PolicyAllows-reader : (h : PrincipalHierarchy) (policy : ReaderPolicy) (reader : ℕ) → Contains policy.readers reader → PolicyAllows h reader policy
PolicyAllows-reader h policy reader contained = inr (Any-from_some (λ r. ActsFor h.pairs reader r) policy.readers reader contained (itself reader))

-- where a policy flows to another one, it allows each principal that the other one allows
pub PolicyAllows-flowing : (h : PrincipalHierarchy) (from to : ReaderPolicy) (p : ℕ) → PolicyFlowsTo h from to → PolicyAllows h p to → PolicyAllows h p from
PolicyAllows-flowing h from to p flow allowed =
    ⊎_elim
    (λ owner. inl (through p to.owner from.owner owner flow.0))
    (λ some. Any-elim (λ reader. ActsFor h.pairs p reader) to.readers (PolicyAllows h p from) some
    (λ reader contained reads.
    PolicyAllows-acting h from reader p reads (each_from_All (λ r. PolicyAllows h r from) to.readers flow.1 reader contained)))
    allowed

pub PolicyFlowsTo-itself : (h : PrincipalHierarchy) (policy : ReaderPolicy) → PolicyFlowsTo h policy policy
PolicyFlowsTo-itself h policy = (itself policy.owner, All-from_each (λ r. PolicyAllows h r policy) policy.readers (PolicyAllows-reader h policy))

pub PolicyFlowsTo-through : (h : PrincipalHierarchy) (a b c : ReaderPolicy) → PolicyFlowsTo h a b → PolicyFlowsTo h b c → PolicyFlowsTo h a c
PolicyFlowsTo-through h a b c first second = (
  through c.owner b.owner a.owner second.0 first.0,
  All-from_each (λ r. PolicyAllows h r a) c.readers
      (λ reader contained. PolicyAllows-flowing h a b reader first (each_from_All (λ r. PolicyAllows h r b) c.readers second.1 reader contained)),
)

-- a flow, policy by policy
pub FlowsTo-from_each : (h : PrincipalHierarchy) (from to : Label) → ((policy : ReaderPolicy) → Contains from policy → (other : ReaderPolicy) × Contains to other × PolicyFlowsTo h policy other) → FlowsTo h from to
FlowsTo-from_each h from to each =
    All-from_each _ from
    (λ policy contained. let found = each policy contained in
    Any-from_some (λ other. PolicyFlowsTo h policy other) to found.0 found.1 found.2)

pub FlowsTo-elim : (h : PrincipalHierarchy) (from to : Label) → FlowsTo h from to → (policy : ReaderPolicy) → Contains from policy → (other : ReaderPolicy) × Contains to other × PolicyFlowsTo h policy other
FlowsTo-elim h from to flow policy contained =
    Any-elim (λ other. PolicyFlowsTo h policy other) to _
    (each_from_All (λ x. Any (λ other. PolicyFlowsTo h x other) to) from flow policy contained)
    (λ other there covers. (other, there, covers))

-- a label flows to each label that has its policies
pub FlowsTo-subset : (h : PrincipalHierarchy) (from to : Label) → ((policy : ReaderPolicy) → Contains from policy → Contains to policy) → FlowsTo h from to
FlowsTo-subset h from to more =
    FlowsTo-from_each h from to (λ policy contained. (policy, more policy contained, PolicyFlowsTo-itself h policy))

pub FlowsTo-itself : (h : PrincipalHierarchy) (a : Label) → FlowsTo h a a
FlowsTo-itself h a = FlowsTo-subset h a a (λ policy contained. contained)

pub FlowsTo-through : (h : PrincipalHierarchy) (a b c : Label) → FlowsTo h a b → FlowsTo h b c → FlowsTo h a c
FlowsTo-through h a b c first second =
    FlowsTo-from_each h a c
    (λ policy contained.
    let middle = FlowsTo-elim h a b first policy contained in
    let last = FlowsTo-elim h b c second middle.0 middle.1 in
    (last.0, last.1, PolicyFlowsTo-through h policy middle.0 last.0 middle.2 last.2))

pub FlowsTo-join_left : (h : PrincipalHierarchy) (a b : Label) → FlowsTo h a (a ++ b)
FlowsTo-join_left h a b = FlowsTo-subset h a (a ++ b) (Contains-append_left a b)

pub FlowsTo-join_right : (h : PrincipalHierarchy) (a b : Label) → FlowsTo h b (a ++ b)
FlowsTo-join_right h a b = FlowsTo-subset h b (a ++ b) (Contains-append_right a b)

pub FlowsTo-join_least : (h : PrincipalHierarchy) (a b c : Label) → FlowsTo h a c → FlowsTo h b c → FlowsTo h (a ++ b) c
FlowsTo-join_least h a b c left right =
    FlowsTo-from_each h (a ++ b) c
    (λ policy contained.
    ⊎_elim (FlowsTo-elim h a c left policy) (FlowsTo-elim h b c right policy) (Contains-append_cases a b policy contained))

pub FlowsTo-least : (h : PrincipalHierarchy) (a : Label) → FlowsTo h [] a
FlowsTo-least h a = All-nil _

-- the laws together
pub IsLattice-flow : (h : PrincipalHierarchy) → IsLattice (FlowsTo h) (λ a b. a ++ b) []
IsLattice-flow h = record {
  reflexive = FlowsTo-itself h;
  transitive = FlowsTo-through h;
  above_left = FlowsTo-join_left h;
  above_right = FlowsTo-join_right h;
  least_above = FlowsTo-join_least h;
  below_all = FlowsTo-least h;
}

-- where a label flows to another one, every reader of the other one reads it
pub MayRead-flowing : (h : PrincipalHierarchy) (from to : Label) (p : ℕ) → FlowsTo h from to → MayRead h p to → MayRead h p from
MayRead-flowing h from to p flow reads =
    All-from_each (λ policy. PolicyAllows h p policy) from
    (λ policy contained.
    let found = FlowsTo-elim h from to flow policy contained in
    PolicyAllows-flowing h policy found.0 p found.2 (each_from_All (λ other. PolicyAllows h p other) to reads found.0 found.1))

-- each principal that may read a label may read each label that has no other policies
pub MayRead-subset : (h : PrincipalHierarchy) (a b : Label) (p : ℕ) → ((policy : ReaderPolicy) → Contains a policy → Contains b policy) → MayRead h p b → MayRead h p a
MayRead-subset h a b p more = MayRead-flowing h a b p (FlowsTo-subset h a b more)

-- the readers of a join are the readers of both
pub MayRead-join : (h : PrincipalHierarchy) (p : ℕ) (a b : Label) → MayRead h p a → MayRead h p b → MayRead h p (a ++ b)
MayRead-join h p a b left right =
    All-from_each (λ policy. PolicyAllows h p policy) (a ++ b)
    (λ policy contained.
    ⊎_elim
    (each_from_All (λ x. PolicyAllows h p x) a left policy)
    (each_from_All (λ x. PolicyAllows h p x) b right policy)
    (Contains-append_cases a b policy contained))

pub MayRead-join_left : (h : PrincipalHierarchy) (p : ℕ) (a b : Label) → MayRead h p (a ++ b) → MayRead h p a
MayRead-join_left h p a b = MayRead-flowing h a (a ++ b) p (FlowsTo-join_left h a b)

pub MayRead-join_right : (h : PrincipalHierarchy) (p : ℕ) (a b : Label) → MayRead h p (a ++ b) → MayRead h p b
MayRead-join_right h p a b = MayRead-flowing h b (a ++ b) p (FlowsTo-join_right h a b)

-- everyone reads what the least label guards
pub MayRead-least : (h : PrincipalHierarchy) (p : ℕ) → MayRead h p []
MayRead-least h p = All-nil _

-- only the set of policies counts
pub MayRead-same : (h : PrincipalHierarchy) (p : ℕ) (a b : Label) → SameSet a b → MayRead h p a ↔ MayRead h p b
MayRead-same h p a b same = (MayRead-subset h b a p (λ x. (same x).1), MayRead-subset h a b p (λ x. (same x).0))

pub FlowsTo-same : (h : PrincipalHierarchy) (a b c d : Label) → SameSet a b → SameSet c d → FlowsTo h a c ↔ FlowsTo h b d
FlowsTo-same h a b c d left right = (
  λ flow. FlowsTo-through h b a d (FlowsTo-subset h b a (λ x. (left x).1))
      (FlowsTo-through h a c d flow (FlowsTo-subset h c d (λ x. (right x).0))),
  λ flow. FlowsTo-through h a b c (FlowsTo-subset h a b (λ x. (left x).0))
      (FlowsTo-through h b d c flow (FlowsTo-subset h d c (λ x. (right x).1))),
)
