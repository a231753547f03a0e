use Rattle.labels.specs.Comparing.{HaveAll, Told}
use Rattle.labels.proofs.under.Under.add_those.Given as goal

abbrev pub invariant-loop-k : goal.invariant-loop-k
invariant-loop-k l = HaveAll l.self.entries.now (Told l.self.hierarchy.now l.role l.principal) l.row
