use Rattle.std.proofs.Common.{ℕ, ◌<◌, ◌≤◌, take}
use Rattle.std.specs.Prelude.{All}
use Rattle.labels.proofs.entries.bound_of.Given as goal

-- of the numbers so far
abbrev pub invariant-loop-number : goal.invariant-loop-number
invariant-loop-number l = record {
  above : All (λ number. number < l.bound) (take l.number-index l.numbers);
  least : (bound : ℕ) → All (λ number. number < bound) l.numbers → l.bound ≤ bound;
}
