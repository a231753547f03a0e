use Rattle.modules.proofs.Own.{module-hierarchy, own-channel_label, own-view, own-isolation}
use Rattle.modules.proofs.laws.labels_are_those_written.Goals as goal

pub returns-clause-hierarchy : goal.returns-clause-hierarchy
returns-clause-hierarchy c = module-hierarchy

pub returns-clause-labels : goal.returns-clause-labels
returns-clause-labels c = own-channel_label

pub returns-clause-views : goal.returns-clause-views
returns-clause-views c = own-view

pub returns-clause-isolated : goal.returns-clause-isolated
returns-clause-isolated c = own-isolation
