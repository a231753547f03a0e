-- The next id as a host keeps it.
-- Source: our own.
use Rattle.std.specs.Prelude.{ℕ, ◌^◌, Option, Some, None}

-- none is left where every id of 64 bits was given
abbrev pub next_of : Option ℕ → ℕ
next_of None = 2 ^ 64
next_of (Some id) = id
