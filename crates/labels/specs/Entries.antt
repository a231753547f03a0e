-- Labels as their texts say, each with its own policies and, where it names others, the numbers of all labels that it is made
-- of; and the whole labels that these stand for.
-- Source: our own.
use Rattle.std.specs.Prelude.{◌≡◌, ℕ, zero, suc, ◌<◌, ◌≤◌, ◌^◌, List, [], ◌∷◌, ◌++◌, length, map, Bool, ◌||◌, ◌==◌, if◌then◌else◌, Option, Some, None, IsTrue, All, Contains, ◌⊎◌}
use Rattle.std.specs.List.{list_any}
use Rattle.std.specs.Arc.{arc_slice_items}
use Rattle.labels.specs.Row.{has}
use Rattle.labels.specs.Label.{Label, ReaderPolicy}
use Rattle.labels.specs.Canonical.{IsCanonicalPolicy, written_label}
use Rattle.labels.specs.LabelTable.{IsLabelTable}
use Rattle.labels.specs.declared.entries.Entry.{Entry}

-- the own policies of an entry, and its row; an entry without one has the empty row
abbrev pub own_of : Entry → List ReaderPolicy
own_of entry = arc_slice_items entry.key.own

abbrev pub numbers_in : Option (List Bool) → List Bool
numbers_in None = []
numbers_in (Some row) = row

abbrev pub row_of : Entry → List Bool
row_of entry = numbers_in entry.row

-- the same of the entry with a number, nothing where there is none
abbrev pub own_at : List Entry → ℕ → List ReaderPolicy
own_at [] n = []
own_at (entry ∷ entries) zero = own_of entry
own_at (entry ∷ entries) (suc n) = own_at entries n

abbrev pub row_at : List Entry → ℕ → List Bool
row_at [] n = []
row_at (entry ∷ entries) zero = row_of entry
row_at (entry ∷ entries) (suc n) = row_at entries n

-- a label is made of itself and of those in its row; and whether one of several labels is made of one
abbrev pub made_of : List Entry → (label part : ℕ) → Bool
made_of entries label part = part == label || has (row_at entries label) part

abbrev pub some_made_of : List Entry → List ℕ → (part : ℕ) → Bool
some_made_of entries labels part = list_any (λ label. made_of entries label part) labels

-- the own policies of the entries in a row, of entries with numbers from one on
abbrev pub policies_in : List Bool → (from : ℕ) → List Entry → List ReaderPolicy
policies_in row from [] = []
policies_in row from (entry ∷ entries) = (if has row from then own_of entry else []) ++ policies_in row (suc from) entries

-- the whole label of an entry, and of all entries
abbrev pub whole : List Entry → Entry → Label
whole entries entry = written_label (own_of entry ++ policies_in (row_of entry) 0 entries)

abbrev pub labels_in : List Entry → List Label
labels_in entries = map (whole entries) entries

-- numbers have 32 bits, rows lie below the own number, and policies are canonical
pub record AreEntries (entries : List Entry) : Type 0 where
  pub few : length entries ≤ 2 ^ 32
  pub short : (n : ℕ) → length (row_at entries n) ≤ n
  pub canonical : (n : ℕ) → All IsCanonicalPolicy (own_at entries n)

-- what is kept of a table of entries
pub record IsTable (entries : List Entry) : Type 0 where
  pub are : AreEntries entries
  pub labels : IsLabelTable (labels_in entries)

-- policies that are gathered from the entries below a number that are in a row
pub record ArePoliciesGathered (entries : List Entry) (row : List Bool) (below : ℕ) (policies : List ReaderPolicy) : Type 0 where
  pub canonical : All IsCanonicalPolicy policies
  pub has_all : (part : ℕ) (policy : ReaderPolicy) → part < below → IsTrue (has row part) → Contains (own_at entries part) policy → Contains policies policy
  pub only : (policy : ReaderPolicy) → Contains policies policy → (part : ℕ) × IsTrue (has row part) × Contains (own_at entries part) policy

-- the entry with a number has these own policies and this row
pub record IsHeldAs (entries : List Entry) (n : ℕ) (own : List ReaderPolicy) (row : List Bool) : Type 0 where
  pub inside : n < length entries
  pub own_is : own_at entries n ≡ own
  pub row_is : row_at entries n ≡ row

-- a text without own policies and with one name alone, or none, is that of the label with this number
abbrev pub IsOnlyName : List ReaderPolicy → List ℕ → ℕ → Type 0
IsOnlyName own named number = (own ≡ []) × (((named ≡ []) × (number ≡ 0)) ⊎ (named ≡ number ∷ []))
