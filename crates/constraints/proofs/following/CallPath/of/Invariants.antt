use Rattle.std.proofs.Common.{List, ℕ}
use Rattle.constraints.specs.Added.{Stored}
use Rattle.constraints.specs.Following.{AreFollowed, IsCallPath}
use Rattle.constraints.proofs.following.CallPath.of.Given as goal

abbrev pub invariant-loop-k : goal.invariant-loop-k
invariant-loop-k l = record {
  way : (real : ℕ) (base : List Stored) → AreFollowed real base l.rows → AreFollowed real base l.others → IsCallPath real base l.way;
}
