-- The readers of labels that the laws are about: a principal under a hierarchy, also one to which the labels are carried over.
use Rattle.std.proofs.Common.{ℕ}
use Rattle.std.proofs.lemmas.List.{map-append}
use Rattle.principals.specs.ActsFor.{PrincipalHierarchy}
use Rattle.labels.specs.Label.{may_read}
use Rattle.labels.proofs.Tests.{flows-decides}
use Rattle.labels.proofs.FlowTests.{may_read-flowing, may_read-join, may_read-least}
use Rattle.labels.specs.Carried.{KeepsActsFor, carried_policy, carried_label}
use Rattle.labels.proofs.Carried.{carried-flow}
use Rattle.isolation.proofs.Observer.{LabelReader}

-- a principal
abbrev pub principal-reader : (h : PrincipalHierarchy) (p : ℕ) → LabelReader h
principal-reader h p = record {
  reads = λ label. may_read h p label;
  nothing = may_read-least h p;
  joined = may_read-join h p;
  flowing = λ a b flow reads. may_read-flowing h a b p flow reads;
}

-- a principal of another hierarchy, to which labels are carried over
abbrev pub carried-reader : (smaller larger : PrincipalHierarchy) (carry : ℕ → ℕ) → KeepsActsFor smaller larger carry → (p : ℕ) →
    LabelReader smaller
carried-reader smaller larger carry keeps p = record {
  reads = λ label. may_read larger p (carried_label carry label);
  nothing = may_read-least larger p;
  joined = λ a b. rw (map-append (carried_policy carry) a b) (may_read-join larger p (carried_label carry a) (carried_label carry b));
  flowing = λ a b flow reads.
      may_read-flowing larger (carried_label carry a) (carried_label carry b) p
      ((flows-decides larger (carried_label carry a) (carried_label carry b)).1
      (carried-flow smaller larger carry keeps a b ((flows-decides smaller a b).0 flow))) reads;
}
