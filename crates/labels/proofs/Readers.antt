-- Who acts for some reader of a policy, by the row of its readers.
use Rattle.std.proofs.Common.{◌≡◌, ◌<◌, ◌↔◌, ℕ, Bool, List, length, ⊎_elim, arith}
use Rattle.std.specs.Prelude.{Any, IsTrue}
use Rattle.std.specs.List.{list_any}
use Rattle.std.proofs.lemmas.Bool.Decides.{same_from_decides}
use Rattle.principals.specs.ActsFor.{ActsFor, IsHierarchy, PrincipalHierarchy, acts_for}
use Rattle.principals.specs.Table.{has}
use Rattle.principals.specs.declared.principal_set.PrincipalSet.{PrincipalSet}
use Rattle.principals.proofs.Closure.{acts_for-below, acts_for-decides}
use Rattle.labels.specs.Inside.{IsRowOf}
use Rattle.labels.proofs.Elements.{Any-elim, Any-from_some}
use Rattle.labels.proofs.Tests.{list_any-decides}

-- a principal acts for no number that is none
small_of_acting : (h : PrincipalHierarchy) → IsHierarchy h → (a b : ℕ) → a < length h.names → ActsFor h.pairs a b → b < 256
small_of_acting h kept a b inside acts =
    ⊎_elim
    (λ (e : a ≡ b). omega (arith, kept.few))
    (λ (l : (a < length h.names) × (b < length h.names)). omega (arith, kept.few, l.1))
    (acts_for-below (length h.names) h.pairs kept.there a b ((acts_for-decides h.pairs a b).1 acts))

-- a principal acts for some reader where it acts for some number of the row
pub read_by_row : (h : PrincipalHierarchy) → IsHierarchy h → (a : ℕ) → a < length h.names → (readers : List ℕ) (row : PrincipalSet) → IsRowOf readers row →
    (answer : Bool) → IsTrue answer ↔ ((b : ℕ) × IsTrue (has row b) × ActsFor h.pairs a b) → answer ≡ list_any (λ reader. acts_for h.pairs a reader) readers
read_by_row h kept a inside readers row is answer says =
    let decides = list_any-decides (λ reader. acts_for h.pairs a reader) (λ reader. ActsFor h.pairs a reader) readers (acts_for-decides h.pairs a) in
    same_from_decides {P = Any (λ reader. ActsFor h.pairs a reader) readers} answer (list_any (λ reader. acts_for h.pairs a reader) readers) (
      λ t. let found = says.0 t in Any-from_some (λ reader. ActsFor h.pairs a reader) readers found.0 ((is found.0).0 found.1).1 found.2,
      λ some. says.1 (Any-elim (λ reader. ActsFor h.pairs a reader) readers ((b : ℕ) × IsTrue (has row b) × ActsFor h.pairs a b) some
          (λ reader contained acts. (reader, (is reader).1 (small_of_acting h kept a reader inside acts, contained), acts))),
    ) decides
