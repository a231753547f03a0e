use Rattle.acceptance.proofs.ProperNames.{gives_names}
use Rattle.acceptance.proofs.laws.resolved_programs_have_names.Goals as goal

pub returns-clause-hierarchy : goal.returns-clause-hierarchy
returns-clause-hierarchy c = λ source h program from.
    c.hierarchies_and_channel_labels_are_kept.ensures.hierarchy h from.tree program from.resolved

pub returns-clause-names : goal.returns-clause-names
returns-clause-names c = gives_names (record {
  proper = c.item_names_are_proper_and_different.ensures.proper;
  different = c.item_names_are_proper_and_different.ensures.different;
  utf8 = c.item_names_are_utf8.ensures;
  kept = c.hierarchies_and_channel_labels_are_kept.ensures.hierarchy;
  canonical = c.hierarchies_and_channel_labels_are_kept.ensures.labels;
})
