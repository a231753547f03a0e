-- Private: the exit unknowns of exits as a table: one of each exit that is no exception, and for each exception an entry with its level. An entry
-- counts where its level is above the barrier, so that raising the barrier takes all of them away at once.
-- Source: our own.
use Rattle.std.specs.Prelude.{ℕ, suc, ◌≤◌, ◌==◌, List, [], ◌∷◌, set, Option, Some, None, if◌then◌else◌, nat_lt, slice_index_or}
use Rattle.resolved.specs.Tree.{Handlers, NoMore, Catch}
use Rattle.path_map.specs.PathMaps.{value_at}
use Rattle.gathering.specs.Walk as walk
use Rattle.constraints.specs.declared.around.Around.{Around}
use Rattle.constraints.specs.declared.exit_unknowns.ExitUnknown.{ExitUnknown}
use Rattle.constraints.specs.declared.exit_unknowns.Saved.{Saved}
use Rattle.constraints.specs.declared.exit_unknowns.ExitUnknowns.{ExitUnknowns}

-- an exception without an exit unknown
abbrev pub no_entry : ExitUnknown
no_entry = record { number = 0; level = 0 }

abbrev pub exit_unknown_of : (barrier : ℕ) → ExitUnknown → Option ℕ
exit_unknown_of barrier entry = if nat_lt barrier entry.level then Some entry.number else None

-- the exit unknown of an exception, by the barrier
abbrev pub thrown_exit_unknown : (thrown : List ExitUnknown) → (barrier exception : ℕ) → Option ℕ
thrown_exit_unknown thrown barrier exception = exit_unknown_of barrier (slice_index_or thrown exception no_entry)

-- the exit unknown of each exit
abbrev pub exit_unknowns_of : ExitUnknowns → (thrown : List ExitUnknown) → walk.ExitUnknowns
exit_unknowns_of exit_unknowns thrown = value_at (thrown_exit_unknown thrown) exit_unknowns.ends

abbrev pub exit_unknowns_around : Around → walk.ExitUnknowns
exit_unknowns_around around = exit_unknowns_of around.exit_unknowns.now around.thrown.now

-- no level is above this one
abbrev pub AreWithin : (level : ℕ) → (thrown : List ExitUnknown) → Type 0
AreWithin level thrown = (x : ℕ) → (slice_index_or thrown x no_entry).level ≤ level

-- an entry that takes the place of another one, unless that has its level
abbrev pub entry_after : (exception : ℕ) → ExitUnknown → (x : ℕ) → (old : ExitUnknown) → ExitUnknown
entry_after exception entry x old = if x == exception then (if old.level == entry.level then old else entry) else old

-- the entry of an exception after handlers, with the numbers from n on, have taken theirs one after the other
abbrev pub entry_in_try : Handlers → (n level : ℕ) → (x : ℕ) → (old : ExitUnknown) → ExitUnknown
entry_in_try NoMore n level x old = old
entry_in_try (Catch at handled body rest) n level x old =
    entry_in_try rest (suc n) level x (entry_after handled (record { number = n; level = level }) x old)

-- exit unknowns whose level neither their barrier nor an entry is above
pub record AreLevelled (exit_unknowns : ExitUnknowns) (thrown : List ExitUnknown) : Type 0 where
  pub barrier_is_within : exit_unknowns.ends.raised ≤ exit_unknowns.level
  pub entries_are_within : AreWithin exit_unknowns.level thrown

-- saved entries put back, the last one first
abbrev pub undone : List Saved → List ExitUnknown → List ExitUnknown
undone [] thrown = thrown
undone (saved ∷ rest) thrown = set (undone rest thrown) saved.exception saved.entry
