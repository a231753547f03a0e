use Rattle.std.proofs.Common.{◌≡◌, length}
use Rattle.tests_model.proofs.rows.row_of.Given as goal

abbrev pub invariant-loop-i : goal.invariant-loop-i
invariant-loop-i l = record { count : length l.row ≡ l.n }
