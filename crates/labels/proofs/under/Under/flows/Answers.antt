use Rattle.labels.proofs.Found.{flows-none}
use Rattle.labels.specs.Entries.{labels_in}
use Rattle.labels.specs.LabelTable.{label_at}
use Rattle.labels.proofs.under.Under.flows.Goals as goal

pub returns : goal.returns
returns c =
    let labels = labels_in c.args.self.now.entries.now in
    flows-none c.args.self.now.hierarchy.now (label_at labels c.args.from) (label_at labels c.args.to) c.find_uncovered.result c.is_none.result c.is_none.ensures c.find_uncovered.ensures.none
