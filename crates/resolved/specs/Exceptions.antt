-- The names of exceptions by their numbers.
-- Source: our own.
use Rattle.std.specs.Prelude.{ℕ, List, [], ◌++◌, slice_get, unwrap_or}
use Rattle.common.specs.Exceptions.{built_in_names}

-- an exception of a program with these declared ones: one that every program has, or a declared one; else the empty name
abbrev pub exception_name : (declared : List (List ℕ)) → (exception : ℕ) → List ℕ
exception_name declared exception = unwrap_or (slice_get (built_in_names ++ declared) exception) []
