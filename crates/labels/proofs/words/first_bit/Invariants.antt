use Rattle.std.proofs.Common.{◌-◌, ◌≤◌, []}
use Rattle.labels.specs.Words.{NoneNew}
use Rattle.labels.proofs.words.first_bit.Given as goal

abbrev pub invariant-loop-i : goal.invariant-loop-i
invariant-loop-i l = record {
  from_on : l.from ≤ l.i;
  none : NoneNew l.words [] l.from l.i;
}

abbrev pub decreases-loop-i : goal.decreases-loop-i
decreases-loop-i l = l.to - l.i
