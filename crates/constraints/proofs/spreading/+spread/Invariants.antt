use Rattle.std.proofs.Common.{length}
use Rattle.constraints.proofs.spreading.+spread.Given as goal

-- halves are shorter
abbrev pub decreases-spread : goal.decreases-spread
decreases-spread l = length l.calls.now
