-- What a sink of bytes does with what it is given.
-- Source: our own.
use Rattle.std.specs.Prelude.{ℕ, List, Bool, true, Option, Result, Ok, Err, length, nat_lt, ◌==◌, ◌&&◌}
use Rattle.std.specs.Io.KnownBytes.{Appends}
use Rattle.labels.specs.Sent.{IsPrefix}

-- whether a write failed: it answered a fault, or it took none of the bytes that there were
abbrev pub is_failure : {E : Type 0} → Result ℕ E → List ℕ → Bool
is_failure (Ok taken) bytes = (taken == 0) && nat_lt 0 (length bytes)
is_failure (Err fault) bytes = true

-- what a sink holds grew by a prefix of the bytes
abbrev pub AppendsPrefix : Option (List ℕ) → Option (List ℕ) → List ℕ → Type 0
AppendsPrefix old new bytes = (front : List ℕ) × IsPrefix front bytes × Appends old new front
