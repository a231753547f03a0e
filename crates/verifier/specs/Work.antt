-- Private: an offset that has a list.
-- Source: our own.
use Rattle.std.specs.Prelude.{ℕ}
use Rattle.verifier.specs.declared.work.ListedOffset.{ListedOffset}

-- an offset with the numbers of its instruction and of its list
abbrev pub listed_at : ℕ → ℕ → ℕ → ListedOffset
listed_at at number list = record { at = at; number = number; list = list }
