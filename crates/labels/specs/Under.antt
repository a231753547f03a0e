-- Labels by their numbers, the hierarchy under which they are compared, and the first of some numbers that fails a comparison.
-- Source: our own.
use Rattle.std.specs.Prelude.{◌≡◌, ℕ, ◌<◌, List, Bool, true, false, Option, Some, None, IsTrue}
use Rattle.principals.specs.ActsFor.{PrincipalHierarchy}
use Rattle.labels.specs.Label.{Label}
use Rattle.labels.specs.Row.{has}

pub record LabelsUnder : Type 0 where
  pub hierarchy : PrincipalHierarchy
  pub labels : List Label

-- the first number of a row that fails a test, if one does
pub record IsFirstAbove (below : ℕ → Bool) (row : List Bool) (n : ℕ) : Type 0 where
  pub there : IsTrue (has row n)
  pub fails : below n ≡ false
  pub before : (m : ℕ) → m < n → IsTrue (has row m) → below m ≡ true

abbrev pub FirstAbove : (below : ℕ → Bool) → List Bool → Option ℕ → Type 0
FirstAbove below row None = (n : ℕ) → IsTrue (has row n) → below n ≡ true
FirstAbove below row (Some n) = IsFirstAbove below row n
