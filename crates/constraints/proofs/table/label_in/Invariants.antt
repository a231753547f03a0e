use Rattle.std.proofs.Common.{◌≡◌, drop}
use Rattle.constraints.specs.Rows.{label_among}
use Rattle.constraints.proofs.table.label_in.Given as goal

abbrev pub invariant-loop-thrown : goal.invariant-loop-thrown
invariant-loop-thrown l = label_among l.throws l.exception l.default ≡ label_among (drop l.thrown-index l.throws) l.exception l.default
