use Rattle.std.proofs.Common.{ℕ, ◌<◌, ◌↔◌, Contains, IsTrue, take}
use Rattle.principals.specs.Table.{has}
use Rattle.principals.proofs.principal_set.PrincipalSet.of.Given as goal

-- The row has the numbers so far that are below the limit.
abbrev pub invariant-loop-number : goal.invariant-loop-number
invariant-loop-number l = (member : ℕ) → IsTrue (has l.row member) ↔ ((member < 256) × Contains (take l.number-index l.numbers) member)
