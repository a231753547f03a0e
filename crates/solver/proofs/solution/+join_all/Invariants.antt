use Rattle.std.proofs.Common.{length}
use Rattle.solver.proofs.solution.+join_all.Given as goal

-- each half is shorter
abbrev pub decreases-join_all : goal.decreases-join_all
decreases-join_all g l = length l.numbers.now
