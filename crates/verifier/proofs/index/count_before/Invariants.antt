use Rattle.std.proofs.Common.{◌≡◌, ℕ, ◌<◌, ◌≤◌, ◌*◌, length, get_or}
use Rattle.verifier.specs.Starts.{starts_before}
use Rattle.verifier.proofs.index.count_before.Given as goal

abbrev pub invariant-loop-index : goal.invariant-loop-index
invariant-loop-index l = record {
  count_is : l.count ≡ starts_before l.starts (64 * l.index);
  counted : (j : ℕ) → j < l.index → get_or l.counts j 0 ≡ starts_before l.starts (64 * j);
  long : length l.starts ≤ length l.counts;
}
