-- The laws of reading and of flow, as facts about the tests.
use Rattle.std.proofs.Common.{◌≡◌, ℕ, Bool, [], ◌++◌, ◌&&◌, ◌↔◌}
use Rattle.std.specs.Prelude.{IsTrue}
use Rattle.std.proofs.lemmas.Bool.Decides.{same_from_decides}
use Rattle.std.proofs.lemmas.List.Folds.{list_all-append}
use Rattle.principals.specs.ActsFor.{PrincipalHierarchy}
use Rattle.labels.specs.Label.{Label, policy_allows, may_read, flows, FlowsTo}
use Rattle.lattices.specs.Lattice.{IsLattice}
use Rattle.labels.specs.Sets.{SameSet}
use Rattle.labels.proofs.Flow.{FlowsTo-same, IsLattice-flow, MayRead-flowing, MayRead-least, MayRead-same}
use Rattle.labels.proofs.Tests.{may_read-decides, flows-decides}

-- tests of two facts that follow from one another answer the same
same_answer : {P Q : Type 0} (a b : Bool) → (IsTrue a ↔ P) → (IsTrue b ↔ Q) → (P ↔ Q) → a ≡ b
same_answer a b left right both =
    same_from_decides a b left (λ t. both.1 (right.0 t), λ fact. right.1 (both.0 fact))

-- a lattice's laws go by what its order says
pub IsLattice-like : {V : Type 0} (leq like : V → V → Type 0) (join : V → V → V) (least : V) → ((a b : V) → like a b ↔ leq a b) → IsLattice leq join least → IsLattice like join least
IsLattice-like leq like join least same laws = record {
  reflexive = λ a. (same a a).1 (laws.reflexive a);
  transitive = λ a b c first second. (same a c).1 (laws.transitive a b c ((same a b).0 first) ((same b c).0 second));
  above_left = λ a b. (same a (join a b)).1 (laws.above_left a b);
  above_right = λ a b. (same b (join a b)).1 (laws.above_right a b);
  least_above = λ a b c left right. (same (join a b) c).1 (laws.least_above a b c ((same a c).0 left) ((same b c).0 right));
  below_all = λ a. (same least a).1 (laws.below_all a);
}

pub IsLattice-flows : (h : PrincipalHierarchy) → IsLattice (λ a b. IsTrue (flows h a b)) (λ a b. a ++ b) []
IsLattice-flows h = IsLattice-like (FlowsTo h) (λ a b. IsTrue (flows h a b)) (λ a b. a ++ b) [] (flows-decides h) (IsLattice-flow h)

-- where a label flows to another one, every reader of the other one reads it
pub may_read-flowing : (h : PrincipalHierarchy) (a b : Label) (p : ℕ) → IsTrue (flows h a b) → IsTrue (may_read h p b) → IsTrue (may_read h p a)
may_read-flowing h a b p flow reads =
    (may_read-decides h p a).1 (MayRead-flowing h a b p ((flows-decides h a b).0 flow) ((may_read-decides h p b).0 reads))

-- the readers of a join are the readers of both
pub may_read-join : (h : PrincipalHierarchy) (p : ℕ) (a b : Label) → may_read h p (a ++ b) ≡ (may_read h p a && may_read h p b)
may_read-join h p a b = list_all-append (λ policy. policy_allows h p policy) a b

pub may_read-least : (h : PrincipalHierarchy) (p : ℕ) → IsTrue (may_read h p [])
may_read-least h p = (may_read-decides h p []).1 (MayRead-least h p)

-- only the set of policies counts
pub may_read-same : (h : PrincipalHierarchy) (p : ℕ) (a b : Label) → SameSet a b → may_read h p a ≡ may_read h p b
may_read-same h p a b same =
    let reads = MayRead-same h p a b same in
    same_answer (may_read h p a) (may_read h p b) (may_read-decides h p a) (may_read-decides h p b) reads

pub flows-same : (h : PrincipalHierarchy) (a b c d : Label) → SameSet a b → SameSet c d → flows h a c ≡ flows h b d
flows-same h a b c d left right =
    same_answer (flows h a c) (flows h b d) (flows-decides h a c) (flows-decides h b d) (FlowsTo-same h a b c d left right)
