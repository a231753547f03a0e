-- Private: No public clause cites it. A walk along edges, each once: an edge fewer is left.
-- Source: our own.
use Rattle.std.specs.Prelude.{◌≡◌, ℕ, ◌<◌, List, Option, Some, None}
use Rattle.std.specs.List.{sum}

-- an edge was taken, or none was left
abbrev pub IsTaken : (old new : List ℕ) → Option ℕ → Type 0
IsTaken old new None = new ≡ old
IsTaken old new (Some index) = sum new < sum old
