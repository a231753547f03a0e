use Rattle.std.proofs.Common.{◌≡◌, ◌-◌, ◌≤◌, ◌++◌, length, take}
use Rattle.verifier.proofs.fixed.copy_code.Given as goal

abbrev pub invariant-loop-size : goal.invariant-loop-size
invariant-loop-size l = record {
  so_far : l.placed.items ≡ l.fn.placed.items ++ take l.size l.code;
  inside : l.size ≤ length l.code;
}

abbrev pub decreases-loop-size : goal.decreases-loop-size
decreases-loop-size l = length l.code - l.size
