use Rattle.std.proofs.Common.{length}
use Rattle.path_map.proofs.keeping.+looking.Given as goal

-- only the rows before one are looked at
abbrev pub decreases-row_has : goal.decreases-row_has
decreases-row_has l = length l.rows.now
