use Rattle.std.proofs.Common.{◌≡◌, ◌<◌, ℕ, List, length, take}
use Rattle.principals.specs.declared.principal_set.PrincipalSet.{PrincipalSet}
use Rattle.principals.specs.Table.{is_written, related}
use Rattle.principals.proofs.table.relate_written.Given as goal

-- the rows have what these pairs say
pub record HaveWritten (rows : List PrincipalSet) (count : ℕ) (pairs : List (ℕ × ℕ)) : Type 0 where
  pub long : length rows ≡ count
  pub each : (a b : ℕ) → a < count → related rows a b ≡ is_written pairs a b

abbrev pub invariant-loop-left : goal.invariant-loop-left
invariant-loop-left l = HaveWritten l.table.items l.count (take l.left-index l.pairs)
