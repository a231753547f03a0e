-- How a set of exceptions below a bound is kept.
-- Source: our own.
use Rattle.std.specs.Prelude.{◌≡◌, ℕ, ◌<◌, List, length, Bool, false, ◌==◌}
use Rattle.labels.specs.Row.{has}
use Rattle.path_map.specs.declared.members.SetForm.{SetForm}
use Rattle.path_map.specs.declared.members.SetForm.TheVariants.{Empty, Single, Many}

-- whether an exception is in it
abbrev pub kept_has : SetForm → ℕ → Bool
kept_has Empty exception = false
kept_has (Single only) exception = exception == only
kept_has (Many row) exception = has row exception

-- its exceptions are below the bound, which is that of a row
abbrev pub IsSetInside : (bound : ℕ) → SetForm → Type 0
IsSetInside bound kept =
    ((only : ℕ) → kept ≡ Single only → only < bound) × ((row : List Bool) → kept ≡ Many row → length row ≡ bound)
