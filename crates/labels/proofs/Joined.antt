-- The join in canonical form has the laws of the union.
use Rattle.std.proofs.Common.{ℕ, [], ◌++◌, ◌↔◌}
use Rattle.std.specs.Prelude.{IsTrue}
use Rattle.std.proofs.lemmas.List.Elements.{Contains-append_left, Contains-append_right}
use Rattle.principals.specs.ActsFor.{PrincipalHierarchy}
use Rattle.labels.specs.Label.{Label, MayRead, FlowsTo, flows}
use Rattle.lattices.specs.Lattice.{IsLattice}
use Rattle.labels.specs.Canonical.{joined}
use Rattle.labels.proofs.Flow.{FlowsTo-itself, FlowsTo-through, FlowsTo-subset, FlowsTo-join_least, FlowsTo-least, MayRead-join, MayRead-join_left, MayRead-join_right, MayRead-same}
use Rattle.labels.proofs.FlowTests.{IsLattice-like}
use Rattle.labels.proofs.Tests.{flows-decides}
use Rattle.labels.proofs.Written.{SameSet-joined}

pub FlowsTo-joined_left : (h : PrincipalHierarchy) (a b : Label) → FlowsTo h a (joined a b)
FlowsTo-joined_left h a b = FlowsTo-subset h a (joined a b) (λ x contained. (SameSet-joined a b x).1 (Contains-append_left a b x contained))

pub FlowsTo-joined_right : (h : PrincipalHierarchy) (a b : Label) → FlowsTo h b (joined a b)
FlowsTo-joined_right h a b = FlowsTo-subset h b (joined a b) (λ x contained. (SameSet-joined a b x).1 (Contains-append_right a b x contained))

pub FlowsTo-joined_least : (h : PrincipalHierarchy) (a b c : Label) → FlowsTo h a c → FlowsTo h b c → FlowsTo h (joined a b) c
FlowsTo-joined_least h a b c left right =
    FlowsTo-through h (joined a b) (a ++ b) c (FlowsTo-subset h (joined a b) (a ++ b) (λ x. (SameSet-joined a b x).0)) (FlowsTo-join_least h a b c left right)

pub IsLattice-joined : (h : PrincipalHierarchy) → IsLattice (FlowsTo h) joined []
IsLattice-joined h = record {
  reflexive = FlowsTo-itself h;
  transitive = FlowsTo-through h;
  above_left = FlowsTo-joined_left h;
  above_right = FlowsTo-joined_right h;
  least_above = FlowsTo-joined_least h;
  below_all = FlowsTo-least h;
}

pub IsLattice-joined_test : (h : PrincipalHierarchy) → IsLattice (λ a b. IsTrue (flows h a b)) joined []
IsLattice-joined_test h = IsLattice-like (FlowsTo h) (λ a b. IsTrue (flows h a b)) joined [] (flows-decides h) (IsLattice-joined h)

pub MayRead-joined : (h : PrincipalHierarchy) (p : ℕ) (a b : Label) → MayRead h p (joined a b) ↔ (MayRead h p a × MayRead h p b)
MayRead-joined h p a b =
    let same = MayRead-same h p (joined a b) (a ++ b) (SameSet-joined a b) in (
      λ reads. (MayRead-join_left h p a b (same.0 reads), MayRead-join_right h p a b (same.0 reads)),
      λ both. same.1 (MayRead-join h p a b both.0 both.1),
    )
