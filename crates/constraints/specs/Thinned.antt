-- Private: constraints that were added but for the flows of the exceptions that calls raise, in place of which the calls were noted.
-- Source: our own.
use Rattle.std.specs.Prelude.{◌≡◌, ◌⊎◌, ℕ, ◌+◌, ◌<◌, ◌≤◌, List, [], Contains, length}
use Rattle.labels.specs.Label.{Label}
use Rattle.lattices.specs.Constraints.{outer}
use Rattle.resolved.specs.declared.program.Core.{Core}
use Rattle.gathering.specs.Names.{NamedAtom, NamedConstraint, is_inner_name}
use Rattle.gathering.specs.Size.{begins}
use Rattle.gathering.specs.Walk.{inner_atom}
use Rattle.solver.specs.declared.constraints.Atom.{Atom}
use Rattle.constraints.specs.Added.{AreAdded, IsPart, Stored}
use Rattle.constraints.specs.Journals.{IsRaised, IsUpToDate, entry_at}
use Rattle.constraints.specs.declared.journal.Called.{Called}
use Rattle.constraints.specs.declared.journal.Journal.{Journal}
use Rattle.constraints.specs.declared.progress.Progress.{Progress}
use Rattle.constraints.specs.declared.exit_unknowns.ExitUnknown.{ExitUnknown}

-- a constraint gives a call its own label
pub record IsOwnOf (called : Called) (added : List NamedConstraint) : Type 0 where
  pub by : NamedConstraint
  pub among : Contains added by
  pub is : by.right ≡ inner_atom called.own

-- those that were kept are all but flows of exceptions of calls that are noted now, and only such flows are noted that were to be added
pub record ThinnedNow (core : Core) (table : List Label) (added : List NamedConstraint) (old new : List Stored) (before after : Journal) (thrown : List ExitUnknown) : Type 0 where
  pub kept : List NamedConstraint
  pub kept_added : AreAdded core table kept old new
  pub outer_is : outer is_inner_name kept ≡ outer is_inner_name added
  pub stays : (c : NamedConstraint) → Contains kept c → Contains added c
  pub rest : (c : NamedConstraint) → Contains added c → Contains kept c ⊎ IsRaised core after c
  pub only : (c : NamedConstraint) → IsRaised core after c → IsRaised core before c ⊎ Contains added c
  pub keeps : (c : NamedConstraint) → IsRaised core before c → IsRaised core after c
  pub owns : (called : Called) → Contains after.calls.items called → Contains before.calls.items called ⊎ IsOwnOf called added
  pub few : length after.calls.items ≤ length before.calls.items + begins added
  pub up_to_date : IsUpToDate after thrown

-- by a walk, whose next call finds the entries that exceptions have
abbrev pub Thinned : Core → (table : List Label) → (added : List NamedConstraint) → (old new : Progress) → Type 0
Thinned core table added old new =
    IsUpToDate old.journal old.thrown.items →
    ThinnedNow core table added old.constraints.items new.constraints.items old.journal new.journal new.thrown.items

-- what is gathered at a pc
abbrev pub IsThinnedAt : Core → (table : List Label) → (pc : Atom) → (NamedAtom → List NamedConstraint) → (old new : Progress) → Type 0
IsThinnedAt core table pc gathered old new =
    (named : NamedAtom) → IsPart core table named pc → Thinned core table (gathered named) old new

-- of a whole walk, before which no call was noted
pub record ThinnedWhole (core : Core) (table : List Label) (added : List NamedConstraint) (walked : Progress) : Type 0 where
  pub start : Journal
  pub no_calls : start.calls.items ≡ []
  pub now : ThinnedNow core table added [] walked.constraints.items start walked.journal walked.thrown.items

-- entries were noted that exceptions have from the next call on
pub record AreNoted (before after : Journal) (thrown : List ExitUnknown) : Type 0 where
  pub calls_are : after.calls ≡ before.calls
  pub past_are : (x call : ℕ) → call < length before.calls.items → entry_at after x call ≡ entry_at before x call
  pub up_to_date : IsUpToDate after thrown
