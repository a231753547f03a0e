-- Private: the calls that were noted, and the entries of exceptions at each of them.
-- Source: our own.
use Rattle.std.specs.Prelude.{◌≡◌, ℕ, zero, suc, ◌<◌, ◌≤◌, ◌==◌, ◌&&◌, true, false, List, [], ◌∷◌, ◌++◌, Contains, Option, Some, None, if◌then◌else◌, length, nat_le, nat_lt, slice_index_or}
use Rattle.std.specs.List.Sorted.{IsPartitionPoint}
use Rattle.std.specs.declared.vec.Vec.{Vec}
use Rattle.std.specs.Global.{Global}
use Rattle.resolved.specs.declared.program.Core.{Core}
use Rattle.resolved.specs.declared.statement.Exit.TheVariants.{Throw}
use Rattle.resolved.specs.CoreOf.{program_of}
use Rattle.resolved.specs.Program.{Program, ThrownEntry, procedure_at}
use Rattle.gathering.specs.Names.{NamedConstraint, named_atoms}
use Rattle.gathering.specs.Walk.{call_atoms, inner_atom}
use Rattle.constraints.specs.ExitUnknowns.{no_entry, exit_unknown_of}
use Rattle.constraints.specs.declared.journal.Called.{Called}
use Rattle.constraints.specs.declared.journal.Journal.{Journal}
use Rattle.constraints.specs.declared.journal.Moment.{Moment}
use Rattle.constraints.specs.declared.exit_unknowns.ExitUnknown.{ExitUnknown}

-- the moments of an exception
abbrev pub moments_at : List (Vec Moment Global) → (exception : ℕ) → List Moment
moments_at [] x = []
moments_at (row ∷ rows) zero = row.items
moments_at (row ∷ rows) (suc x) = moments_at rows x

-- those of one of this many exceptions, after another moment of an exception came
abbrev pub noted : (count exception : ℕ) → Moment → (x : ℕ) → List Moment → List Moment
noted count exception moment x moments =
    if (x == exception) && nat_lt exception count then moments ++ moment ∷ [] else moments

-- the entry at a call: that of the last moment up to it, or else this
abbrev pub entry_from : List Moment → (call : ℕ) → ExitUnknown → ExitUnknown
entry_from [] call old = old
entry_from (moment ∷ rest) call old = entry_from rest call (if nat_le moment.call call then moment.entry else old)

abbrev pub entry_at : Journal → (exception call : ℕ) → ExitUnknown
entry_at journal x call = entry_from (moments_at journal.moments.items x) call no_entry

-- moments in the order of their calls, none of them after a call
abbrev pub AreUpTo : (last : ℕ) → List Moment → Type 0
AreUpTo last moments = (moment : Moment) → Contains moments moment → moment.call ≤ last

abbrev pub IsBeforeAll : Moment → List Moment → Type 0
IsBeforeAll moment [] = Unit {0}
IsBeforeAll moment (later ∷ rest) = (moment.call ≤ later.call) × IsBeforeAll moment rest

abbrev pub AreOrdered : List Moment → Type 0
AreOrdered [] = Unit {0}
AreOrdered (moment ∷ rest) = IsBeforeAll moment rest × AreOrdered rest

-- this many moments are up to a call, and the others after it
abbrev pub AreUpToCall : (call : ℕ) → List Moment → (count : ℕ) → Type 0
AreUpToCall call moments count =
    IsPartitionPoint (λ (moment : Moment). nat_le moment.call call ≡ true) (λ (moment : Moment). nat_le moment.call call ≡ false) moments count

-- the moments of exceptions after some of them were noted at a call with the entries that they have
abbrev pub noted_all : (count call : ℕ) → (thrown : List ExitUnknown) → (exceptions : List ℕ) → (x : ℕ) → List Moment → List Moment
noted_all count call thrown [] x moments = moments
noted_all count call thrown (exception ∷ rest) x moments =
    noted_all count call thrown rest x (noted count exception (record { call = call; entry = slice_index_or thrown exception no_entry }) x moments)

-- the exit unknown of an exception at a call; and an exception that has one exit unknown at all of some calls
abbrev pub exit_unknown_at : Journal → Called → (exception : ℕ) → Option ℕ
exit_unknown_at journal called x = exit_unknown_of called.barrier (entry_at journal x called.call)

abbrev pub HasOneExitUnknown : Journal → List Called → (exception : ℕ) → Type 0
HasOneExitUnknown journal calls x = (a b : Called) → Contains calls a → Contains calls b → exit_unknown_at journal a x ≡ exit_unknown_at journal b x

abbrev pub AreInOrder : Journal → Type 0
AreInOrder journal = (x : ℕ) → AreOrdered (moments_at journal.moments.items x)

-- the flow of an exception of a call to an exit unknown
abbrev pub raised_flow : Program → (callee own exception exit_unknown : ℕ) → NamedConstraint
raised_flow program callee own x exit_unknown = record {
  at = 0;
  rule = 0;
  left = inner_atom own ∷ named_atoms (call_atoms program callee (Throw x));
  target = None;
  right = inner_atom exit_unknown;
}

-- a flow of an exception of one of the calls
pub record IsRaised (core : Core) (journal : Journal) (c : NamedConstraint) : Type 0 where
  pub called : Called
  pub among : Contains journal.calls.items called
  pub entry : ThrownEntry
  pub declared : Contains (procedure_at (program_of core) called.callee).throws entry
  pub exit_unknown : ℕ
  pub takes : exit_unknown_at journal called entry.exception ≡ Some exit_unknown
  pub is : c ≡ raised_flow (program_of core) called.callee called.own entry.exception exit_unknown

-- the next call finds the entries that exceptions have
pub record IsUpToDate (journal : Journal) (thrown : List ExitUnknown) : Type 0 where
  pub now : (x : ℕ) → entry_at journal x (length journal.calls.items) ≡ slice_index_or thrown x no_entry
  pub past : (called : Called) → Contains journal.calls.items called → called.call < length journal.calls.items
  pub upto : (x : ℕ) → AreUpTo (length journal.calls.items) (moments_at journal.moments.items x)
  pub ordered : (x : ℕ) → AreOrdered (moments_at journal.moments.items x)
  pub wide : length journal.moments.items ≡ length thrown
