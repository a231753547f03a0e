-- Walks one after the other.
use Rattle.std.proofs.Common.{◌≡◌, refl, sym, ap, ◌∙◌, subst, ℕ, ◌+◌, List, [], ◌++◌, map, drop, arith, append_assoc}
use Rattle.std.proofs.lemmas.List.{map-append}
use Rattle.labels.specs.Label.{Label}
use Rattle.resolved.specs.declared.program.Core.{Core}
use Rattle.resolved.specs.declared.statement.Exit.{Exit}
use Rattle.path_map.specs.Exits.{Exits}
use Rattle.path_map.specs.Exits.{exits_of}
use Rattle.gathering.specs.Names.{NamedAtom, NamedConstraint}
use Rattle.solver.specs.declared.constraints.Atom.{Atom}
use Rattle.constraints.specs.Added.{IsGatheredAt, IsPart}
use Rattle.constraints.specs.ExitUnknowns.{AreLevelled}
use Rattle.constraints.specs.Walked.{HasPassed, IsWalked}
use Rattle.constraints.specs.declared.progress.Progress.{Progress}
use Rattle.constraints.specs.declared.exit_unknowns.ExitUnknown.{ExitUnknown}
use Rattle.constraints.specs.declared.exit_unknowns.ExitUnknowns.{ExitUnknowns}
use Rattle.constraints.proofs.Thinned.{walks-exact, walks-same, walks-then}

-- the exits of two pieces, one after the other
pub paths-then : (first second : List (List Exit)) (found left : List Exits) → found ≡ map exits_of (first ++ second) ++ left
    → found ≡ map exits_of first ++ (map exits_of second ++ left)
paths-then first second found left is =
    is ∙ ap (λ list. list ++ left) (map-append exits_of first second) ∙ append_assoc (map exits_of first) (map exits_of second) left

pub levels-same : (exit_unknowns : ExitUnknowns) (old new : List ExitUnknown) → new ≡ old → AreLevelled exit_unknowns old → AreLevelled exit_unknowns new
levels-same exit_unknowns old new same levelled = subst (AreLevelled exit_unknowns) (sym same) levelled

module _ (core : Core) (table : List Label) (entries : List Exits) where
  -- a piece that takes no entry of the path map
  pub alone-passed : (pc : Atom) (gathered : NamedAtom → List NamedConstraint) (made : ℕ) (left : List Exits) (old new : Progress)
      → drop old.index entries ≡ left → new.index ≡ old.index → new.number ≡ old.number + made → new.thrown.items ≡ old.thrown.items → new.journal ≡ old.journal
      → IsGatheredAt core table pc gathered old.constraints.items new.constraints.items
      → HasPassed core table entries pc gathered made left old new
  alone-passed pc gathered made left old new before index number thrown journal added = record {
    added = λ named stands. walks-exact core table (gathered named) old new (added named stands) journal thrown;
    entries_left = ap (λ i. drop i entries) index ∙ before;
    number_is = number;
    thrown_is = thrown;
  }

  pub alone-walked : (pc : Atom) (exit_unknowns : ExitUnknowns) (gathered : NamedAtom → List NamedConstraint) (made : ℕ) (old new : Progress)
      → new.index ≡ old.index → new.number ≡ old.number + made → new.thrown.items ≡ old.thrown.items → new.journal ≡ old.journal
      → IsGatheredAt core table pc gathered old.constraints.items new.constraints.items
      → IsWalked core table entries pc exit_unknowns [] gathered made old new
  alone-walked pc exit_unknowns gathered made old new index number thrown journal added =
      λ left before levelled. alone-passed pc gathered made left old new before index number thrown journal added

  pub passed-then : (pc : Atom) (first second : NamedAtom → List NamedConstraint) (m k : ℕ) (between left : List Exits) (old middle new : Progress)
      → HasPassed core table entries pc first m between old middle → HasPassed core table entries pc second k left middle new
      → HasPassed core table entries pc (λ named. first named ++ second named) (m + k) left old new
  passed-then pc first second m k between left old middle new one two = record {
    added = λ named stands. walks-then core table (first named) (second named) old middle new (one.added named stands) (two.added named stands);
    entries_left = two.entries_left;
    number_is = omega (arith, one.number_is, two.number_is);
    thrown_is = two.thrown_is ∙ one.thrown_is;
  }

  pub passed-same : (pc : Atom) (wanted gathered : NamedAtom → List NamedConstraint) (k m : ℕ) (left : List Exits) (old new : Progress)
      → ((named : NamedAtom) → wanted named ≡ gathered named) → k ≡ m
      → HasPassed core table entries pc gathered m left old new → HasPassed core table entries pc wanted k left old new
  passed-same pc wanted gathered k m left old new same count passed = record {
    added = λ named stands. walks-same core table (wanted named) (gathered named) old new (same named) (passed.added named stands);
    entries_left = passed.entries_left;
    number_is = passed.number_is ∙ ap (λ n. old.number + n) (sym count);
    thrown_is = passed.thrown_is;
  }

  -- a piece that is reached at a pc of its own
  pub passed-at : (pc own : Atom) (named : NamedAtom) (gathered : NamedAtom → List NamedConstraint) (m : ℕ) (left : List Exits) (old new : Progress)
      → IsPart core table named own → HasPassed core table entries own gathered m left old new
      → HasPassed core table entries pc (λ other. gathered named) m left old new
  passed-at pc own named gathered m left old new stands passed = record {
    added = λ other is. passed.added named stands;
    entries_left = passed.entries_left;
    number_is = passed.number_is;
    thrown_is = passed.thrown_is;
  }

  -- a piece whose exit unknowns and numbers are known
  pub walked-on : (own : Atom) (exit_unknowns : ExitUnknowns) (paths : List (List Exit)) (gathered : List ExitUnknown → ℕ → NamedAtom → List NamedConstraint) (m : ℕ) (left : List Exits)
      (old new : Progress) (thrown : List ExitUnknown) (number : ℕ)
      → old.thrown.items ≡ thrown → old.number ≡ number → AreLevelled exit_unknowns thrown → drop old.index entries ≡ map exits_of paths ++ left
      → IsWalked core table entries own exit_unknowns paths (gathered old.thrown.items old.number) m old new
      → HasPassed core table entries own (gathered thrown number) m left old new
  walked-on own exit_unknowns paths gathered m left old new thrown number thrown_is number_is levelled before walked =
      passed-same own (gathered thrown number) (gathered old.thrown.items old.number) m m left old new
      (λ named. ap (λ t. gathered t number named) (sym thrown_is) ∙ ap (λ k. gathered old.thrown.items k named) (sym number_is)) refl
      (walked left before (levels-same exit_unknowns thrown old.thrown.items thrown_is levelled))

  -- inner unknowns that were made before
  pub passed-from : (pc : Atom) (gathered : NamedAtom → List NamedConstraint) (k m : ℕ) (left : List Exits) (old middle new : Progress)
      → middle ≡ record old { number = old.number + k }
      → HasPassed core table entries pc gathered m left middle new → HasPassed core table entries pc gathered (k + m) left old new
  passed-from pc gathered k m left old middle new made passed =
      let same : HasPassed core table entries pc gathered m left (record old { number = old.number + k }) new = subst (λ p. HasPassed core table entries pc gathered m left p new) made passed in
      record {
        added = same.added;
        entries_left = same.entries_left;
        number_is = same.number_is ∙ omega arith;
        thrown_is = same.thrown_is;
      }
