-- Private: the exit unknowns of a procedure's exits as a table, and a walk past a procedure.
-- Source: our own.
use Rattle.std.specs.Prelude.{◌≡◌, ℕ, suc, ◌+◌, ◌==◌, List, [], ◌∷◌, ◌++◌, drop, length, map, if◌then◌else◌, Some, None, Bool, true, false, slice_index_or}
use Rattle.labels.specs.Label.{Label}
use Rattle.resolved.specs.declared.program.Core.{Core}
use Rattle.resolved.specs.declared.tables.Procedure.{Procedure}
use Rattle.resolved.specs.CoreOf.{program_of}
use Rattle.resolved.specs.Labelled.{here}
use Rattle.resolved.specs.Program.{ThrownEntry}
use Rattle.resolved.specs.ProgramOf.{procedure_entry}
use Rattle.path_map.specs.Exits.{Exits, for_all}
use Rattle.path_map.specs.Exits.{exits_of}
use Rattle.path_map.specs.Paths.{block_paths}
use Rattle.gathering.specs.Walk.{made_by_procedure, procedure_constraints}
use Rattle.constraints.specs.LeftSides.{scope_of}
use Rattle.constraints.specs.ExitUnknowns.{AreWithin, no_entry}
use Rattle.constraints.specs.Thinned.{Thinned}
use Rattle.constraints.specs.declared.progress.Progress.{Progress}
use Rattle.constraints.specs.declared.exit_unknowns.ExitUnknown.{ExitUnknown}
use Rattle.constraints.specs.declared.exit_unknowns.ExitUnknowns.{ExitUnknowns}

-- the entry of an exception, after declared exceptions were given the numbers from n on, the first of each exception counting
abbrev pub declared_entry : List ThrownEntry → (n level : ℕ) → (exception : ℕ) → (old : ExitUnknown) → ExitUnknown
declared_entry [] n level x old = old
declared_entry (entry ∷ rest) n level x old =
    if x == entry.exception then (record { number = n; level = level }) else declared_entry rest (suc n) level x old

abbrev pub AreDeclaredExitUnknowns : List ThrownEntry → (n level : ℕ) → (old new : List ExitUnknown) → Type 0
AreDeclaredExitUnknowns throws n level old new =
    (x : ℕ) → slice_index_or new x no_entry ≡ declared_entry throws n level x (slice_index_or old x no_entry)

-- the number of the exit unknown of an exception
abbrev pub number_in : List ExitUnknown → (exception : ℕ) → ℕ
number_in thrown x = (slice_index_or thrown x no_entry).number

-- the exit unknowns of a procedure's exits, where its end has number n; none where there is one exit only
abbrev pub end_exit_unknowns_of : (n barrier level : ℕ) → (only : Bool) → ExitUnknowns
end_exit_unknowns_of n barrier level true =
    record { ends = for_all None level; level = level }
end_exit_unknowns_of n barrier level false =
    record {
      ends = record { normal = Some n; returns = Some n; breaks = None; continues = None; raised = barrier };
      level = level;
    }

-- a walk that stays where it is, and keeps its exit unknowns
pub record StaysInPlace (old new : Progress) : Type 0 where
  pub index_is : new.index ≡ old.index
  pub number_is : new.number ≡ old.number
  pub thrown_is : new.thrown.items ≡ old.thrown.items
  pub journal_is : new.journal ≡ old.journal

-- this is the procedure of a program with this number
abbrev pub IsOf : Core → (f : ℕ) → Procedure → Type 0
IsOf core f procedure = here (scope_of core f) ≡ procedure_entry core.labels procedure

-- a walk that came past a procedure, with these entries of the path map left, and exit unknowns up to a level
pub record HasPassedProcedure (core : Core) (table : List Label) (entries : List Exits) (f level : ℕ) (left : List Exits) (old new : Progress) : Type 0 where
  pub added : Thinned core table (procedure_constraints (scope_of core f) old.number) old new
  pub entries_left : drop new.index entries ≡ left
  pub number_is : new.number ≡ old.number + made_by_procedure (scope_of core f)
  pub within : AreWithin level new.thrown.items
  pub wide : length new.thrown.items ≡ length old.thrown.items

-- a walk past a procedure, where the path map goes on with its paths, and no exit unknown's level is above a barrier
abbrev pub IsProcedureWalked : Core → (table : List Label) → (entries : List Exits) → (f barrier : ℕ) → (old new : Progress) → Type 0
IsProcedureWalked core table entries f barrier old new =
    (left : List Exits) → drop old.index entries ≡ map exits_of (block_paths (program_of core) (here (scope_of core f)).body) ++ left →
    AreWithin barrier old.thrown.items → HasPassedProcedure core table entries f (suc barrier) left old new
