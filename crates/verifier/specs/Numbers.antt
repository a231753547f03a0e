-- Private: a number for each index, or none: how they are kept.
-- Source: our own.
use Rattle.std.specs.Prelude.{ℕ, zero, suc, Option, Some, None}

-- the number that a mark stands for, if any
abbrev pub number_of : ℕ → Option ℕ
number_of zero = None
number_of (suc number) = Some number
