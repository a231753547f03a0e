use Rattle.labels.specs.Comparing.{AreBits, AreOf}
use Rattle.labels.specs.Entries.{own_at}
use Rattle.labels.specs.Label.{Covers}
use Rattle.labels.proofs.under.Under.cover_own.Given as goal

abbrev pub invariant-loop-policy : goal.invariant-loop-policy
invariant-loop-policy l = record {
  bits : AreBits l.self.hierarchy.now l.self.entries.now l.bits;
  covered : AreOf l.self.entries.now (Covers l.self.hierarchy.now (own_at l.self.entries.now l.part)) l.fn.covered l.covered;
}
