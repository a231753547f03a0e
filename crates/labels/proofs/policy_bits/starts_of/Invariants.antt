use Rattle.std.proofs.Common.{◌≡◌, ℕ, ◌<◌, ◌^◌, length, get_or}
use Rattle.labels.specs.Comparing.{start}
use Rattle.labels.proofs.policy_bits.starts_of.Given as goal

abbrev pub invariant-loop-n : goal.invariant-loop-n
invariant-loop-n l = record {
  count : length l.starts.items ≡ l.n;
  each : (m d : ℕ) → m < l.n → get_or l.starts.items m d ≡ start l.entries m;
  next : l.next ≡ start l.entries l.n;
  fits : l.next < 2 ^ 64;
}
