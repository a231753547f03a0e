use Rattle.std.proofs.Common.{◌≡◌, ap, sym, ◌∙◌, subst}
use Rattle.std.proofs.lemmas.Result.{IfOk-weaker}
use Rattle.labels.specs.Label.{Label}
use Rattle.labels.specs.Canonical.{written_label}
use Rattle.labels.specs.LabelLattice.{label_lattice}
use Rattle.labels.specs.LabelTable.{labels_of}
use Rattle.solver.specs.Constraints.{AreAlike, values_of}
use Rattle.solver.proofs.LabelValues.{joined-labels, written-alike}
use Rattle.solver.proofs.elements.LabelsUnder.value.Goals as goal

pub returns-clause-exact : goal.returns-clause-exact
returns-clause-exact c =
    let h = c.args.self.now.hierarchy.now in
    let labels = c.args.self.now.labels.now in
    let is : labels_of labels c.deref.result.now ≡ values_of (label_lattice h) labels c.args.solution.now.reached c.args.unknown =
    ap (labels_of labels) (c.deref.ensures.value ∙ c.in_ok-numbers.ensures) ∙ sym (joined-labels h labels _) in
    IfOk-weaker c.join.result _ _ (λ label e. e ∙ ap written_label is) c.join.ensures

pub returns-clause-alike : goal.returns-clause-alike
returns-clause-alike c =
    let h = c.args.self.now.hierarchy.now in
    let labels = c.args.self.now.labels.now in
    let value = values_of (label_lattice h) labels c.args.solution.now.reached c.args.unknown in
    let is : labels_of labels c.deref.result.now ≡ value =
    ap (labels_of labels) (c.deref.ensures.value ∙ c.in_ok-numbers.ensures) ∙ sym (joined-labels h labels _) in
    IfOk-weaker c.join.result _ _ (λ label e. subst (λ (x : Label). AreAlike (label_lattice h) value x) (sym (e ∙ ap written_label is)) (written-alike h value)) c.join.ensures
