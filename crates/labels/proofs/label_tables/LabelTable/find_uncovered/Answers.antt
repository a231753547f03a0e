use Rattle.std.proofs.Common.{◌≡◌, ap, ◌∙◌, List}
use Rattle.labels.specs.Entries.{labels_in}
use Rattle.labels.specs.Label.{Label}
use Rattle.labels.specs.LabelTable.{label_at}
use Rattle.labels.proofs.Tests.{flows-decides}
use Rattle.labels.proofs.label_tables.LabelTable.find_uncovered.Goals as goal

pub returns-clause-none : goal.returns-clause-none
returns-clause-none c =
    let labels : labels_in c.as_slice-entries.result.now ≡ c.args.self.now = ap labels_in c.as_slice-entries.ensures.value ∙ c.self.view_is in
    let from = c.number_inside-from.ensures.same ∙ ap (λ (list : List Label). label_at list c.args.from) labels in
    let to = c.number_inside-to.ensures.same ∙ ap (λ (list : List Label). label_at list c.args.to) labels in
    let none = rw (from, to) at c.find_uncovered.ensures.none in
    let decides = flows-decides c.args.hierarchy.now (label_at c.args.self.now c.args.from) (label_at c.args.self.now c.args.to) in
    (λ e. decides.1 (none.0 e), λ holds. none.1 (decides.0 holds))
