use Rattle.std.proofs.Common.{◌≡◌, ℕ, length}
use Rattle.std.specs.Prelude.{slice_index_or}
use Rattle.constraints.proofs.following.themselves.Given as goal

abbrev pub invariant-loop-unknown : goal.invariant-loop-unknown
invariant-loop-unknown l = record {
  each : (k : ℕ) → slice_index_or l.rows.items k k ≡ k;
  count : length l.rows.items ≡ l.unknown;
}
