use Rattle.path_map.specs.Entries.{RowsGrow}
use Rattle.path_map.proofs.sharing.change_row.Given as goal

abbrev pub invariant-loop-exception : goal.invariant-loop-exception
invariant-loop-exception l = RowsGrow l.fn.rows.items l.rows.items
