-- Integers as programs and machines test them.
-- Source: our own.
use Rattle.std.specs.Prelude.{ℤ, pos, negsuc, Bool, false, ◌==◌}

abbrev pub is_zero : ℤ → Bool
is_zero (pos n) = n == 0
is_zero (negsuc n) = false
