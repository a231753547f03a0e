use Rattle.std.proofs.Common.{length}
use Rattle.path_map.proofs.keeping.+joining.Given as goal

-- only the rows before one are looked at
abbrev pub decreases-whole : goal.decreases-whole
decreases-whole l = length l.rows.now
