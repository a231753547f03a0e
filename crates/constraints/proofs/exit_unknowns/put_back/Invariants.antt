use Rattle.std.proofs.Common.{◌≡◌}
use Rattle.constraints.specs.ExitUnknowns.{undone}
use Rattle.constraints.proofs.exit_unknowns.put_back.Given as goal

abbrev pub invariant-loop-last : goal.invariant-loop-last
invariant-loop-last l = undone l.saved.items l.thrown.items ≡ undone l.fn.saved.items l.fn.thrown.items

abbrev pub decreases-loop-last : goal.decreases-loop-last
decreases-loop-last l = goal.left-loop-last l
