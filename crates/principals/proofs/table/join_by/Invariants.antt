use Rattle.std.proofs.Common.{◌≡◌, ◌<◌, ◌≤◌, ◌||◌, ◌&&◌, ℕ, List}
use Rattle.principals.specs.declared.principal_set.PrincipalSet.{PrincipalSet}
use Rattle.principals.specs.Table.{has, related}
use Rattle.principals.proofs.table.join_by.Given as goal

-- the rows below `count` have what the row of `between` adds, and the others are the old ones
pub record Joined (old new : List PrincipalSet) (added : PrincipalSet) (between count : ℕ) : Type 0 where
  pub below : (a b : ℕ) → a < count → related new a b ≡ (related old a b || (related old a between && has added b))
  pub above : (a b : ℕ) → count ≤ a → related new a b ≡ related old a b

abbrev pub invariant-loop-row : goal.invariant-loop-row
invariant-loop-row l = Joined l.initial.table l.table l.added l.between l.row-index
