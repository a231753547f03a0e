use Rattle.std.proofs.Common.{ap, ◌∙◌, List}
use Rattle.std.proofs.lemmas.Result.{IfOk-weaker}
use Rattle.labels.specs.Entries.{labels_in}
use Rattle.labels.specs.Label.{Label}
use Rattle.labels.specs.LabelTable.{label_at}
use Rattle.labels.proofs.Held.{label-alone}
use Rattle.labels.proofs.label_tables.LabelTable.label.Goals as goal

pub returns : goal.returns
returns c =
    IfOk-weaker c.joined.result _ _
    (λ label e. e ∙ (label-alone c.as_slice.result.now c.args.number
    ∙ ap (λ (labels : List Label). label_at labels c.args.number) (ap labels_in c.as_slice.ensures.value ∙ c.self.view_is)))
    c.joined.ensures
