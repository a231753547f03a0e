-- Private: rows of the exceptions that procedures declare.
-- Source: our own.
use Rattle.std.specs.Prelude.{◌≡◌, ℕ, List, Bool, Option, Some, None, slice_index_or}
use Rattle.resolved.specs.declared.program.Core.{Core}
use Rattle.resolved.specs.CoreOf.{program_of}
use Rattle.resolved.specs.Program.{procedure_at}
use Rattle.resolved.specs.Exits.{declared_by}
use Rattle.path_map.specs.declared.members.ExceptionSet.{ExceptionSet}
use Rattle.path_map.specs.Exceptions.{is_one_of}
use Rattle.path_map.specs.Sets.{members}

-- whether an exception is declared, by a row if there is one
abbrev pub says : Option ExceptionSet → (declared : List ℕ) → ℕ → Bool
says None declared exception = is_one_of declared exception
says (Some row) declared exception = members row exception

-- the rows that there are have the exceptions that the procedures with their numbers declare
abbrev pub no_row : Option ExceptionSet
no_row = None

abbrev pub AreDeclaredRows : Core → List (Option ExceptionSet) → Type 0
AreDeclaredRows core rows = (f exception : ℕ) →
    says (slice_index_or rows f no_row) (declared_by (procedure_at (program_of core) f).throws) exception
    ≡ is_one_of (declared_by (procedure_at (program_of core) f).throws) exception

-- the rows that there are have this bound
abbrev pub HasBound : (bound : ℕ) → Option ExceptionSet → Type 0
HasBound bound row = (set : ExceptionSet) → row ≡ Some set → set.bound ≡ bound

abbrev pub HaveBound : (bound : ℕ) → List (Option ExceptionSet) → Type 0
HaveBound bound rows = (f : ℕ) → HasBound bound (slice_index_or rows f no_row)
