use Rattle.std.proofs.Common.{◌≡◌, ℕ, [], length}
use Rattle.constraints.specs.Merging.{parts_at, rows_of}
use Rattle.constraints.proofs.merging.no_parts.Given as goal

abbrev pub invariant-loop-i : goal.invariant-loop-i
invariant-loop-i l = record {
  nothing : (k : ℕ) → parts_at (rows_of l.kept.items) k ≡ [];
  count : length l.kept.items ≡ l._i;
}
