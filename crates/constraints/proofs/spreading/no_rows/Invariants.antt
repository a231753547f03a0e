use Rattle.std.proofs.Common.{◌≡◌, [], length}
use Rattle.constraints.specs.Spreading.{all_calls}
use Rattle.constraints.proofs.spreading.no_rows.Given as goal

abbrev pub invariant-loop-i : goal.invariant-loop-i
invariant-loop-i l = record {
  none : all_calls l.rows.items ≡ [];
  count : length l.rows.items ≡ l._i;
}
