use Rattle.std.proofs.Common.{◌<◌, ◌≤◌, length, get_or, refl, subst, ◌∙◌, ap}
use Rattle.labels.specs.Channel.{ChannelContents}
use Rattle.resolved.specs.ProgramOf.{channel_entry}
use Rattle.constraints.proofs.Tables.{label-past, label-there}
use Rattle.constraints.proofs.table.Table.channel.Goals as goal

pub returns-in-None : goal.returns-in-None
returns-in-None c =
    label-past c.args.self.now.core.now.labels (channel_entry c.args.self.now.core.now.labels) (λ (entry : ChannelContents). entry.label) c.args.self.now.core.now.channels.items c.args.channel _ c.args.self.now.nothing
    (subst (λ list. length list ≤ c.args.channel) c.deref.ensures.value c.in-None.ensures.lookup.3) refl c.args.self.now.are.nothing_is

pub returns-in-Some : goal.returns-in-Some
returns-in-Some c =
    let entry = c.in-Some.entry.now in
    label-there c.args.self.now.core.now.labels (channel_entry c.args.self.now.core.now.labels) (λ (entry : ChannelContents). entry.label) c.args.self.now.core.now.channels.items c.args.channel entry _ _
    (subst (λ list. c.args.channel < length list) c.deref.ensures.value c.in-Some.ensures.lookup.3.0)
    (c.in-Some.ensures.lookup.1 ∙ ap (λ list. get_or list c.args.channel entry) c.deref.ensures.value)
    c.label_part.ensures
