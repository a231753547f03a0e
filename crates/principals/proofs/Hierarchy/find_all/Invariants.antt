use Rattle.std.proofs.Common.{◌≡◌, ◌<◌, ℕ, List, Some, map, get_or}
use Rattle.std.specs.Prelude.{slice_get, string_bytes}
use Rattle.principals.specs.ActsFor.{HasName}
use Rattle.principals.proofs.Hierarchy.find_all.Given as goal

-- the numbers that the names so far have here are written
abbrev pub invariant-loop-number : goal.invariant-loop-number
invariant-loop-number l =
    (k : ℕ) (name : List ℕ) → k < l.number → slice_get (map (λ name. string_bytes name) l.names) k ≡ Some name → HasName l.self (get_or l.here k 0) name
