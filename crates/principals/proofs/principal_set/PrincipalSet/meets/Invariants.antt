use Rattle.std.proofs.Common.{ℕ, ◌<◌, ◌≡◌, get_or}
use Rattle.std.specs.Prelude.{bit_and}
use Rattle.principals.proofs.principal_set.PrincipalSet.meets.Given as goal

-- The words below `i` have no bit in common.
abbrev pub invariant-loop-i : goal.invariant-loop-i
invariant-loop-i l = (k : ℕ) → k < l.i → bit_and (get_or l.self.words k 0) (get_or l.other.words k 0) ≡ 0
