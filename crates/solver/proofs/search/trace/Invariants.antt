use Rattle.std.proofs.Common.{◌-◌, length}
use Rattle.solver.proofs.Searching.{Searched}
use Rattle.solver.proofs.search.trace.Given as goal

abbrev pub invariant-loop-next : goal.invariant-loop-next
invariant-loop-next l = Searched l.edges l.value l.search.marks.items l.search.found.items l.next

abbrev pub decreases-loop-next : goal.decreases-loop-next
decreases-loop-next l = length l.edges.unknown - l.next
