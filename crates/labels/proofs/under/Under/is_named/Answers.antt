use Rattle.labels.specs.Entries.{labels_in}
use Rattle.labels.specs.LabelTable.{label_at}
use Rattle.labels.proofs.Flow.{FlowsTo-subset}
use Rattle.labels.proofs.under.Under.is_named.Goals as goal

pub returns-else-label-eq0 : goal.returns-else-label-eq0
returns-else-label-eq0 c = λ yes.
    let labels = labels_in c.args.self.now.entries.now in
    FlowsTo-subset c.args.self.now.hierarchy.now (label_at labels c.args.label) (label_at labels c.args.to) (c.includes.ensures yes)
