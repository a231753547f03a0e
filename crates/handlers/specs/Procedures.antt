-- The entries of a procedure's handlers, where few of them stay as they are.
-- Source: our own.
use Rattle.std.specs.Prelude.{◌-◌, ◌≤◌, ℕ, List, [], ◌∷◌, length, take, drop, Option, Some, None, if◌then◌else◌}
use Rattle.modules.specs.declared.declaration.Handler.{Handler}
use Rattle.handlers.specs.Targets.{is_before}
use Rattle.handlers.specs.declared.entries.ThrowSite.{ThrowSite}
use Rattle.handlers.specs.declared.entries.TableEntry.{TableEntry}
use Rattle.handlers.specs.declared.tables.ProcedureHandlers.{ProcedureHandlers}
use Rattle.handlers.specs.declared.tables.ProcedureHandlers.TheVariants.{Few, Many}

abbrev pub start_of : Handler → ThrowSite
start_of handler = record { exception = handler.exception; offset = handler.start }

abbrev pub end_of : Handler → ThrowSite
end_of handler = record { exception = handler.exception; offset = handler.end }

-- the entries from a handler's end on: at the end is the target of the last entry at or before it, and before all entries this one
abbrev pub from_end : Handler → Option ℕ → List TableEntry → List TableEntry
from_end handler target [] = record { site = end_of handler; target = target } ∷ []
from_end handler target (entry ∷ entries) =
    if is_before (end_of handler) entry.site
    then record { site = end_of handler; target = target } ∷ entry ∷ entries
    else from_end handler entry.target entries

-- a handler over entries, before all of which this is the target
abbrev pub laid_over : Handler → Option ℕ → List TableEntry → List TableEntry
laid_over handler target [] = record { site = start_of handler; target = Some handler.target } ∷ from_end handler target []
laid_over handler target (entry ∷ entries) =
    if is_before (start_of handler) entry.site
    then record { site = start_of handler; target = Some handler.target } ∷ from_end handler target (entry ∷ entries)
    else entry ∷ laid_over handler entry.target entries

-- the entries of handlers, the last of which lies below the others
abbrev pub arranged : List Handler → List TableEntry
arranged [] = []
arranged (handler ∷ handlers) = laid_over handler None (arranged handlers)

-- ---- of all procedures

-- the entries of a procedure, of which a few handlers lie among those of all such procedures
abbrev pub entries_in : List Handler → ProcedureHandlers → List TableEntry
entries_in few (Few start end) = arranged (take (end - start) (drop start few))
entries_in few (Many entries) = entries

-- few handlers lie where it is said
abbrev pub IsWithin : List Handler → ProcedureHandlers → Type 0
IsWithin few (Few start end) = (start ≤ end) × (end ≤ length few)
IsWithin few (Many entries) = Unit {0}

abbrev pub AreWithin : List Handler → List ProcedureHandlers → Type 0
AreWithin few [] = Unit {0}
AreWithin few (procedure ∷ procedures) = IsWithin few procedure × AreWithin few procedures
