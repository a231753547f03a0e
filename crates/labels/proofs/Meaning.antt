-- A written policy means what its owner and its readers mean as they are written.
use Rattle.std.proofs.Common.{◌≡◌, ℕ, Bool, true, false, cond, not, List, [], ◌∷◌, ◌⊎◌, ◌↔◌, ◌≢◌, eqb, refl, subst, inl, inr, ⊎_elim}
use Rattle.std.specs.Prelude.{Contains, filter, ◌==◌}
use Rattle.std.specs.Ordering.{nat_cmp}
use Rattle.std.proofs.lemmas.Bool.{eqb-true, eq-eqb, ne_eqb}
use Rattle.std.proofs.lemmas.List.Elements.{All-contains, All-contains_itself, All-filter}
use Rattle.std.proofs.lemmas.Map.Lookups.{exact_unsigned}
use Rattle.principals.specs.ActsFor.{PrincipalHierarchy, ActsFor, itself}
use Rattle.common.proofs.Elements.{none_in_nil, Contains-cons_cases, Contains-later, Contains-first}
use Rattle.labels.specs.Label.{ReaderPolicy, PolicyAllows, PolicyFlowsTo}
use Rattle.labels.specs.Sets.{ascending_set}
use Rattle.labels.specs.Canonical.{readers_with, written_policy}
use Rattle.labels.proofs.Ascending.{ascending_set-SameSet}
use Rattle.labels.proofs.Elements.{All-from_each, Any-from_some, Any-elim}
use Rattle.labels.proofs.Flow.{PolicyAllows-reader}
use Rattle.labels.proofs.Written.{readers_with-owner}

-- a filter keeps what passes
pub Contains-filter : {X : Type 0} (test : X → Bool) (xs : List X) (x : X) → Contains xs x → test x ≡ true → Contains (filter test xs) x
Contains-filter test [] x contained passes = absurd (none_in_nil x contained)
Contains-filter {X} test (y ∷ ys) x contained passes =
    elim (test y) as (λ b. test y ≡ b → Contains (cond b (y ∷ filter test ys) (filter test ys)) x) [
      | true ↦ λ e. ⊎_elim
          (λ same. subst (λ w. Contains (y ∷ filter test ys) w) same (Contains-first y (filter test ys)))
          (λ later. Contains-later y (filter test ys) x (Contains-filter test ys x later passes))
          (Contains-cons_cases y ys x contained)
      | false ↦ λ e. ⊎_elim
          (λ same. let fails : test x ≡ false = subst (λ w. test w ≡ false) same e in absurd (cc))
          (λ later. Contains-filter test ys x later passes)
          (Contains-cons_cases y ys x contained)
    ] refl

-- a filter has no other elements
pub Contains-from_filter : {X : Type 0} (test : X → Bool) (xs : List X) (x : X) → Contains (filter test xs) x → Contains xs x
Contains-from_filter test xs x contained =
    All-contains (Contains xs) (filter test xs) x (All-filter test (Contains xs) xs (All-contains_itself xs)) contained

pub readers_with-to : (owner : ℕ) (readers : List ℕ) (reader : ℕ) → Contains readers reader → reader ≢ owner → Contains (readers_with owner readers) reader
readers_with-to owner readers reader contained other =
    let differs : eqb reader owner ≡ false = ne_eqb reader owner other in
    Contains-filter (λ r. not (r == owner)) (ascending_set nat_cmp readers) reader ((ascending_set-SameSet exact_unsigned readers reader).1 contained)
    (rw differs)

pub readers_with-from : (owner : ℕ) (readers : List ℕ) (reader : ℕ) → Contains (readers_with owner readers) reader → Contains readers reader
readers_with-from owner readers reader contained =
    (ascending_set-SameSet exact_unsigned readers reader).0
    (Contains-from_filter (λ r. not (r == owner)) (ascending_set nat_cmp readers) reader contained)

pub readers_with-iff : (owner : ℕ) (readers : List ℕ) (reader : ℕ) → Contains (readers_with owner readers) reader ↔ (Contains readers reader × (reader ≢ owner))
readers_with-iff owner readers reader = (
  λ c. (readers_with-from owner readers reader c, λ same. readers_with-owner owner readers (subst (λ r. Contains (readers_with owner readers) r) same c)),
  λ both. readers_with-to owner readers reader both.0 both.1,
)

-- the policy as it is written
abbrev as_written : ℕ → List ℕ → ReaderPolicy
as_written owner readers = record { owner = owner; readers = readers }

-- a reader who is written is the owner or one of the readers beside it
owner_or_beside : (owner : ℕ) (readers : List ℕ) (reader : ℕ) → Contains readers reader → (reader ≡ owner) ⊎ Contains (readers_with owner readers) reader
owner_or_beside owner readers reader contained =
    elim (eqb reader owner) as (λ b. eqb reader owner ≡ b → (reader ≡ owner) ⊎ Contains (readers_with owner readers) reader) [
      | true ↦ λ e. inl (eqb-true reader owner e)
      | false ↦ λ e. inr (readers_with-to owner readers reader contained
          (λ same. let equal : eqb reader owner ≡ true = eq-eqb reader owner same in absurd (cc)))
    ] refl

pub PolicyAllows-written : (h : PrincipalHierarchy) (owner : ℕ) (readers : List ℕ) (p : ℕ) → PolicyAllows h p (written_policy owner readers) ↔ PolicyAllows h p (as_written owner readers)
PolicyAllows-written h owner readers p = (
  ⊎_elim inl
      (λ some. Any-elim (λ r. ActsFor h.pairs p r) (readers_with owner readers) (PolicyAllows h p (as_written owner readers)) some
      (λ reader contained acts. inr (Any-from_some (λ r. ActsFor h.pairs p r) readers reader (readers_with-from owner readers reader contained) acts))),
  ⊎_elim inl
      (λ some. Any-elim (λ r. ActsFor h.pairs p r) readers (PolicyAllows h p (written_policy owner readers)) some
      (λ reader contained acts. ⊎_elim
      (λ same. inl (subst (λ r. ActsFor h.pairs p r) same acts))
      (λ beside. inr (Any-from_some (λ r. ActsFor h.pairs p r) (readers_with owner readers) reader beside acts))
      (owner_or_beside owner readers reader contained))),
)

-- each flows to the other
pub PolicyFlowsTo-written : (h : PrincipalHierarchy) (owner : ℕ) (readers : List ℕ) →
    PolicyFlowsTo h (written_policy owner readers) (as_written owner readers) × PolicyFlowsTo h (as_written owner readers) (written_policy owner readers)
PolicyFlowsTo-written h owner readers = (
  (
    itself owner,
    All-from_each (λ r. PolicyAllows h r (written_policy owner readers)) readers
        (λ reader contained. (PolicyAllows-written h owner readers reader).1 (PolicyAllows-reader h (as_written owner readers) reader contained)),
  ),
  (
    itself owner,
    All-from_each (λ r. PolicyAllows h r (as_written owner readers)) (readers_with owner readers)
        (λ reader contained. (PolicyAllows-written h owner readers reader).0 (PolicyAllows-reader h (written_policy owner readers) reader contained)),
  ),
)
