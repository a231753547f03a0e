-- What is kept of the exits of statements and blocks: a summary, and the number of a row of exceptions, where they are
-- several.
-- Source: our own.
use Rattle.std.specs.Prelude.{◌≡◌, ℕ, ◌<◌, ◌≤◌, List, [], ◌∷◌, ◌++◌, Bool, length, set, if◌then◌else◌, Option, Some, None, ⊤}
use Rattle.resolved.specs.declared.statement.Exit.{Exit}
use Rattle.resolved.specs.declared.statement.Exit.TheVariants.{Normal, Return, Break, Continue}
use Rattle.resolved.specs.Exits.{has_exit, thrown_exits}
use Rattle.path_map.specs.declared.exits.Raised.{Raised}
use Rattle.path_map.specs.declared.exits.Raised.TheVariants.{Nothing, One, Several}
use Rattle.path_map.specs.Exits.{Exits}
use Rattle.path_map.specs.declared.keeping.KeptRow.{KeptRow}
use Rattle.path_map.specs.declared.table.ExitsEntry.{ExitsEntry}
use Rattle.path_map.specs.Exits.{exits_of}
use Rattle.path_map.specs.Exceptions.{is_one_of}
use Rattle.path_map.specs.RowLists.{row_at}
use Rattle.path_map.specs.Sets.{throws}

-- the exceptions of a summary, where those that are several are in a row
abbrev pub exceptions_at : List KeptRow → (row : ℕ) → Raised → List ℕ
exceptions_at rows row Nothing = []
exceptions_at rows row (One exception) = exception ∷ []
exceptions_at rows row Several = row_at rows row

-- the exits of an entry
abbrev pub end_if : Bool → Exit → List Exit
end_if test exit = if test then exit ∷ [] else []

abbrev pub entry_exits : List KeptRow → ExitsEntry → List Exit
entry_exits rows entry =
    end_if entry.exits.normal Normal ++ (end_if entry.exits.returns Return
    ++ (end_if entry.exits.breaks Break ++ (end_if entry.exits.continues Continue
    ++ thrown_exits (exceptions_at rows entry.row entry.exits.raised))))

-- an entry whose row is there, and whose summary is that of its exits
pub record IsKept (rows : List KeptRow) (entry : ExitsEntry) : Type 0 where
  pub there : entry.row < length rows
  pub summary : entry.exits ≡ exits_of (entry_exits rows entry)

abbrev pub AreKept : List KeptRow → List ExitsEntry → Type 0
AreKept rows [] = ⊤
AreKept rows (entry ∷ rest) = IsKept rows entry × AreKept rows rest

-- rows after which others may have come
pub record RowsGrow (old new : List KeptRow) : Type 0 where
  pub more : length old ≤ length new
  pub same : (row : ℕ) → row < length old → row_at new row ≡ row_at old row

-- a row of a table with these exceptions
pub record IsRowOfSet (set : ℕ → Bool) (rows : List KeptRow) (row : ℕ) : Type 0 where
  pub there : row < length rows
  pub same : (exception : ℕ) → is_one_of (row_at rows row) exception ≡ set exception

-- the same, where there is one
abbrev pub MayBeRowOf : (set : ℕ → Bool) → List KeptRow → Option ℕ → Type 0
MayBeRowOf set rows None = ⊤
MayBeRowOf set rows (Some row) = IsRowOfSet set rows row

-- a row for a set with these exceptions and this summary: it has them, if they are several
pub record IsRowFor (set : ℕ → Bool) (summary : Raised) (rows : List KeptRow) (row : ℕ) : Type 0 where
  pub there : row < length rows
  pub same : summary ≡ Several → (exception : ℕ) → is_one_of (row_at rows row) exception ≡ set exception

-- exits with these four that are no exception, and the exceptions of a set
pub record HasExits (exits : Exits) (set : ℕ → Bool) (ends : List Exit) : Type 0 where
  pub normal : has_exit ends Normal ≡ exits.normal
  pub returns : has_exit ends Return ≡ exits.returns
  pub breaks : has_exit ends Break ≡ exits.breaks
  pub continues : has_exit ends Continue ≡ exits.continues
  pub raised : (exception : ℕ) → throws ends exception ≡ set exception

-- a table in which one entry was written
pub record IsEntryWritten (at : ℕ) (exits : Exits) (raised : ℕ → Bool) (old new : List (List Exit)) : Type 0 where
  pub ends : List Exit
  pub has : HasExits exits raised ends
  pub written : new ≡ set old at ends
