use Rattle.std.proofs.lemmas.Result.{IfOk-at_ok}
use Rattle.types.proofs.ChannelLabels.{KeepsChannels, channels_kept}
use Rattle.types.proofs.laws.hierarchies_and_channel_labels_are_kept.Goals as goal

pub returns-clause-hierarchy : goal.returns-clause-hierarchy
returns-clause-hierarchy c h tree program e = (IfOk-at_ok (KeepsChannels h) e (channels_kept h tree)).hierarchy

pub returns-clause-labels : goal.returns-clause-labels
returns-clause-labels c h tree program e = (IfOk-at_ok (KeepsChannels h) e (channels_kept h tree)).labels
