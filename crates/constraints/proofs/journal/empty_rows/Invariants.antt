use Rattle.std.proofs.Common.{◌≡◌, ℕ, [], length}
use Rattle.constraints.specs.Journals.{moments_at}
use Rattle.constraints.proofs.journal.empty_rows.Given as goal

abbrev pub invariant-loop-i : goal.invariant-loop-i
invariant-loop-i l = record {
  empty : (k : ℕ) → moments_at l.rows.items k ≡ [];
  count : length l.rows.items ≡ l._i;
}
