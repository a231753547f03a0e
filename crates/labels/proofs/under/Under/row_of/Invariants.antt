use Rattle.labels.specs.Comparing.{HaveAll, Told}
use Rattle.labels.proofs.under.Under.row_of.Given as goal

abbrev pub invariant-loop-n : goal.invariant-loop-n
invariant-loop-n l = HaveAll l.self.entries.now (Told l.self.hierarchy.now l.role l.principal) l.row
