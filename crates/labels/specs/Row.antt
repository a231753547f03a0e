-- A set of the numbers below n, as n truth values: of each number whether it is in the set.
-- Source: our own.
use Rattle.std.specs.Prelude.{◌≡◌, ℕ, ◌<◌, ◌≤◌, List, length, Bool, false, ◌||◌, IsTrue, Option, Some, None, slice_index_or}
use Rattle.std.specs.Simd.Lanes.{zip2}

-- whether a number is in a set
abbrev pub has : List Bool → ℕ → Bool
has row i = slice_index_or row i false

-- the union of two sets of the same bound
abbrev pub union : List Bool → List Bool → List Bool
union row other = zip2 (λ a b. a || b) row other

-- a set includes another one
abbrev pub Includes : List Bool → List Bool → Type 0
Includes row other = (i : ℕ) → IsTrue (has other i) → IsTrue (has row i)

-- the numbers of a set from one on and below another one are in a second set
abbrev pub IncludedBetween : (row other : List Bool) → (from to : ℕ) → Type 0
IncludedBetween row other from to = (i : ℕ) → from ≤ i → i < to → IsTrue (has row i) → IsTrue (has other i)

-- the least number, from one on, that is in a set and not in a second one of the same bound
pub record IsFirstBeyond (row other : List Bool) (from i : ℕ) : Type 0 where
  pub from_on : from ≤ i
  pub inside : i < length row
  pub there : IsTrue (has row i)
  pub missing : has other i ≡ false
  pub before : IncludedBetween row other from i

-- the same, where there is one
abbrev pub FirstBeyond : (row other : List Bool) → (from : ℕ) → Option ℕ → Type 0
FirstBeyond row other from None = IncludedBetween row other from (length row)
FirstBeyond row other from (Some i) = IsFirstBeyond row other from i
