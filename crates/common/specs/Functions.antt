-- A function with one value changed, and sameness of truth values.
-- Source: our own.
use Rattle.std.specs.Prelude.{ℕ, Bool, true, false, not, ◌==◌, if◌then◌else◌}

-- the same function with one value changed
abbrev pub updated : {A : Type 0} → (ℕ → A) → ℕ → A → ℕ → A
updated f k value j = if j == k then value else f j

-- whether two truth values are the same
abbrev pub same_truth : Bool → Bool → Bool
same_truth true b = b
same_truth false b = not b
