use Rattle.std.proofs.Common.{ℕ, ◌<◌, ◌≤◌, ◌-◌, length}
use Rattle.std.specs.Prelude.{IsTrue}
use Rattle.labels.specs.Entries.{labels_in}
use Rattle.labels.specs.Label.{FlowsTo}
use Rattle.labels.specs.LabelTable.{label_at}
use Rattle.labels.specs.Row.{has}
use Rattle.labels.proofs.under.Under.are_named.Given as goal

abbrev pub invariant-loop-label : goal.invariant-loop-label
invariant-loop-label l = record {
  inside : l.from ≤ length l.labels;
  flow : (n : ℕ) → n < l.from → IsTrue (has l.labels n) → FlowsTo l.self.hierarchy.now (label_at (labels_in l.self.entries.now) n) (label_at (labels_in l.self.entries.now) l.to);
}

abbrev pub decreases-loop-label : goal.decreases-loop-label
decreases-loop-label l = length l.labels - l.from
