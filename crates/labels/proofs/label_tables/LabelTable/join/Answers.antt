use Rattle.std.proofs.Common.{ap, ◌∙◌, List}
use Rattle.std.proofs.lemmas.Result.{IfOk-weaker}
use Rattle.labels.specs.Canonical.{written_label}
use Rattle.labels.specs.Entries.{labels_in}
use Rattle.labels.specs.Label.{Label}
use Rattle.labels.specs.LabelTable.{labels_of}
use Rattle.labels.proofs.label_tables.LabelTable.join.Goals as goal

pub returns : goal.returns
returns c =
    IfOk-weaker c.joined.result _ _
    (λ label e. e ∙ ap (λ (labels : List Label). written_label (labels_of labels c.args.numbers.now)) (ap labels_in c.as_slice.ensures.value ∙ c.self.view_is))
    c.joined.ensures
