-- The value of an unknown over labels that are held by number: the join of the labels that reach it.
use Rattle.std.proofs.Common.{◌≡◌, refl, ap, ℕ, List, [], ◌∷◌, ◌++◌}
use Rattle.principals.specs.ActsFor.{PrincipalHierarchy}
use Rattle.labels.specs.Label.{Label}
use Rattle.labels.specs.Canonical.{written_label}
use Rattle.labels.specs.LabelLattice.{label_lattice}
use Rattle.labels.specs.LabelTable.{label_at, labels_of}
use Rattle.labels.proofs.Flow.{FlowsTo-subset}
use Rattle.labels.proofs.Tests.{flows-decides}
use Rattle.labels.proofs.Written.{SameSet-written}
use Rattle.solver.specs.Constraints.{AreAlike, row_join}

pub joined-labels : (h : PrincipalHierarchy) (labels : List Label) (numbers : List ℕ) → row_join (label_lattice h) labels numbers ≡ labels_of labels numbers
joined-labels h labels [] = refl
joined-labels h labels (n ∷ ns) = ap (λ (rest : Label). label_at labels n ++ rest) (joined-labels h labels ns)

pub written-alike : (h : PrincipalHierarchy) (policies : Label) → AreAlike (label_lattice h) policies (written_label policies)
written-alike h policies = record {
  to = (flows-decides h policies (written_label policies)).1 (FlowsTo-subset h policies (written_label policies) (λ x. (SameSet-written policies x).1));
  from = (flows-decides h (written_label policies) policies).1 (FlowsTo-subset h (written_label policies) policies (λ x. (SameSet-written policies x).0));
}
