-- The exceptions among the exits of a statement or block, as `Exceptions` keeps them: whether each is one of them.
-- Source: our own.
use Rattle.std.specs.Prelude.{ℕ, List, Bool, false, ◌==◌}
use Rattle.path_map.specs.declared.exits.Raised.{Raised}
use Rattle.path_map.specs.declared.exits.Raised.TheVariants.{Nothing, One, Several}
use Rattle.path_map.specs.declared.keeping.KeptRow.{KeptRow}
use Rattle.path_map.specs.declared.table.Exceptions.{Exceptions}
use Rattle.path_map.specs.Exceptions.{is_one_of}
use Rattle.path_map.specs.RowLists.{row_at}

-- whether an exception is among those of a summary, where several are in a row
abbrev pub is_raised : Raised → List KeptRow → (row : ℕ) → ℕ → Bool
is_raised Nothing rows row exception = false
is_raised (One only) rows row exception = exception == only
is_raised Several rows row exception = is_one_of (row_at rows row) exception

-- whether an exception is among these
abbrev pub has_exception : Exceptions → ℕ → Bool
has_exception exceptions = is_raised exceptions.raised exceptions.rows.now exceptions.row
