use Rattle.std.proofs.Common.{◌≡◌, ◌<◌, ℕ, List, [], length}
use Rattle.principals.specs.declared.principal_set.PrincipalSet.{PrincipalSet}
use Rattle.principals.specs.Table.{is_written, related}
use Rattle.principals.proofs.table.relate_itself.Given as goal

-- each row so far has its own number alone
pub record HaveThemselves (rows : List PrincipalSet) (count : ℕ) : Type 0 where
  pub long : length rows ≡ count
  pub each : (a b : ℕ) → a < count → related rows a b ≡ is_written [] a b

abbrev pub invariant-loop-number : goal.invariant-loop-number
invariant-loop-number l = HaveThemselves l.table.items l.number
