use Rattle.std.proofs.Common.{take}
use Rattle.constraints.specs.Spreading.{AreRowsOf}
use Rattle.constraints.proofs.spreading.rows_of_calls.Given as goal

abbrev pub invariant-loop-called : goal.invariant-loop-called
invariant-loop-called l = AreRowsOf l.procedures (take l.called-index l.calls) l.rows.items
