use Rattle.std.proofs.Common.{◌≡◌, ◌<◌, ◌∷◌, ◌++◌, ◌∙◌, ap, sym, length, arith, rules}
use Rattle.std.proofs.lemmas.List.{take_all}
use Rattle.labels.specs.Canonical.{written_label}
use Rattle.labels.specs.LabelTable.{labels_of}
use Rattle.types.specs.VariableEntries.{label_with}
use Rattle.types.proofs.JoinAll.{joined_by_numbers, thrown_labels}
use Rattle.types.proofs.procedure.join_all.Goals as goal

pub returns-clause-label : goal.returns-clause-label
returns-clause-label c =
    let labels = c.args.variables.now.labels in
    let throws = c.args.throws.now in
    let numbers = c.loop-thrown.named.items in
    let all : numbers ≡ c.args.first ∷ thrown_labels throws = c.loop-thrown.invariant ∙ ap (λ list. c.args.first ∷ thrown_labels list) (take_all c.loop-thrown.thrown-index throws (omega arith)) in
    let some : 0 < length throws = search rules in
    c.in_ok-add_label.ensures.label ∙ ap (label_with labels) c.of.ensures
    ∙ ap (λ own. written_label (own ++ labels_of labels numbers)) c.new.ensures.items
    ∙ ap (λ list. written_label (labels_of labels list)) all
    ∙ sym (joined_by_numbers labels c.args.first throws some)
