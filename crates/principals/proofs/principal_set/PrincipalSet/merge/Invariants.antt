use Rattle.std.proofs.Common.{ℕ, ◌<◌, ◌≤◌, ◌≡◌, List, get_or}
use Rattle.std.specs.Prelude.{bit_or}
use Rattle.principals.proofs.principal_set.PrincipalSet.merge.Given as goal

-- The words below `i` have both rows' bits, and the others those of the row before.
pub record Merged (old more new : List ℕ) (i : ℕ) : Type 0 where
  pub below : (k : ℕ) → k < i → get_or new k 0 ≡ bit_or (get_or old k 0) (get_or more k 0)
  pub above : (k : ℕ) → i ≤ k → get_or new k 0 ≡ get_or old k 0

abbrev pub invariant-loop-i : goal.invariant-loop-i
invariant-loop-i l = Merged l.initial.self.words l.other.words l.self.words l.i
