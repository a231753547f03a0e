use Rattle.std.proofs.Common.{◌≡◌, ◌<◌, ℕ, List, length}
use Rattle.principals.specs.declared.principal_set.PrincipalSet.{PrincipalSet}
use Rattle.principals.specs.Table.{has_path_below, is_written, related}
use Rattle.principals.proofs.table.close_table.Given as goal

-- the rows have the paths through numbers below `between`
pub record HavePaths (rows : List PrincipalSet) (count between : ℕ) (pairs : List (ℕ × ℕ)) : Type 0 where
  pub long : length rows ≡ count
  pub each : (a b : ℕ) → a < count → related rows a b ≡ has_path_below between (is_written pairs) a b

abbrev pub invariant-loop-between : goal.invariant-loop-between
invariant-loop-between l = HavePaths l.table.items l.count l.between l.pairs
