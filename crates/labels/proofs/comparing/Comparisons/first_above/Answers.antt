use Rattle.std.proofs.Common.{subst, None}
use Rattle.labels.specs.Entries.{labels_in}
use Rattle.labels.specs.Label.{Label, flows}
use Rattle.labels.specs.LabelTable.{label_at}
use Rattle.labels.specs.Under.{FirstAbove, LabelsUnder}
use Rattle.labels.proofs.Compared.{flow-first}
use Rattle.labels.proofs.comparing.Comparisons.first_above.Goals as goal

pub returns-then-branch-clause-first : goal.returns-then-branch-clause-first
returns-then-branch-clause-first c =
    let h = c.self.inside.under.hierarchy.now in
    let es = c.self.inside.under.entries.now in
    let labels = labels_in es in
    subst (λ (v : LabelsUnder). FirstAbove (λ label. flows v.hierarchy (label_at v.labels label) (label_at v.labels c.args.to)) c.args.labels.now None) c.self.view_is
    (subst (λ (t : Label). FirstAbove (λ label. flows h (label_at labels label) t) c.args.labels.now None) c.number_inside-to.ensures.same
    (flow-first h es c.args.labels.now c.number_inside-to.result (c.in_ok-all_flow.ensures.flow c.if-branch.true)))
