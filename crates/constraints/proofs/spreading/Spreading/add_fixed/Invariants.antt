use Rattle.std.proofs.Common.{◌≡◌, ℕ, take}
use Rattle.resolved.specs.CoreOf.{program_of}
use Rattle.gathering.specs.Walk.{inner_atom}
use Rattle.constraints.specs.Added.{AreAdded, IsPart}
use Rattle.constraints.specs.Spreading.{AreLabelsOf, fixed_flows}
use Rattle.constraints.proofs.spreading.Spreading.add_fixed.Given as goal

abbrev pub invariant-loop-thrown : goal.invariant-loop-thrown
invariant-loop-thrown l = record {
  number : l.made.number ≡ l.fn.made.number;
  added : (callee number : ℕ) → IsPart l.self.table.now.core.now l.self.table.now.core.now.labels (inner_atom number) l.node →
      AreLabelsOf l.self.table.now.core.now l.self.table.now.core.now.labels callee l.fixed →
      AreAdded l.self.table.now.core.now l.self.table.now.core.now.labels
      (fixed_flows (program_of l.self.table.now.core.now) l.self.journal.now l.called callee number (take l.thrown-index l.fixed))
      l.fn.made.constraints.items l.made.constraints.items;
}
