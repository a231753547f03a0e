use Rattle.std.proofs.Common.{take}
use Rattle.labels.specs.Entries.{labels_in}
use Rattle.labels.specs.Label.{FlowsTo}
use Rattle.labels.specs.LabelTable.{label_at}
use Rattle.labels.proofs.entries.first_uncovered.Given as goal

abbrev pub invariant-loop-policy : goal.invariant-loop-policy
invariant-loop-policy l = FlowsTo l.hierarchy (take l.policy-index l.policies) (label_at (labels_in l.entries) l.to)
