use Rattle.flowc_c.proofs.texts_c.flowc_explain.Goals as goal

pub returns-in-Ok-clause-labels : goal.returns-in-Ok-clause-labels
returns-in-Ok-clause-labels c = λ done.
    let shown = c.explain_labels.ensures.labels done in
    (shown.0, (c.in-Ok.checked, record { stands = c.in-Ok.ensures.accepted; least = c.in-Ok.ensures.least }, shown.1), shown.2)
