use Rattle.std.proofs.Common.{◌≡◌, ◌-◌, ◌≤◌, replicate}
use Rattle.std.specs.Vec.{vec_len}
use Rattle.verifier.proofs.numbers.fill.Given as goal

abbrev pub invariant-loop-size : goal.invariant-loop-size
invariant-loop-size l = record {
  items : l.marks.items ≡ replicate l.size 0;
  len : vec_len l.marks ≡ l.size;
  few : l.size ≤ l.count;
}

abbrev pub decreases-loop-size : goal.decreases-loop-size
decreases-loop-size l = l.count - l.size
