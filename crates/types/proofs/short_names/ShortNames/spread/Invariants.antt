use Rattle.std.proofs.Common.{◌≡◌, ℕ}
use Rattle.types.specs.Buckets.{found_short}
use Rattle.types.proofs.Buckets.{IsSpread, front_tells}
use Rattle.types.proofs.short_names.ShortNames.spread.Given as goal

-- what the buckets so far tell of a number is found
abbrev pub invariant-loop-bucket : goal.invariant-loop-bucket
invariant-loop-bucket l = (number : ℕ) → found_short l.names.shift l.names.buckets.items l.names.others number ≡ front_tells l.self.shift l.self.buckets.items l.bucket-index number

-- and what the map tells, but for the numbers that are still to come
abbrev pub invariant-loop-number : goal.invariant-loop-number
invariant-loop-number l = IsSpread l.self.shift l.self.buckets.items l.self.others l.number-iterator (found_short l.names.shift l.names.buckets.items l.names.others)
