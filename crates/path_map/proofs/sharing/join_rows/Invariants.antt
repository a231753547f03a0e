use Rattle.path_map.specs.Entries.{RowsGrow}
use Rattle.path_map.proofs.sharing.join_rows.Given as goal

abbrev pub invariant-loop-other : goal.invariant-loop-other
invariant-loop-other l = RowsGrow l.fn.rows.items l.rows.items
