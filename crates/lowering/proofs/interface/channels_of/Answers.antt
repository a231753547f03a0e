use Rattle.std.proofs.Common.{◌≡◌, ap, ◌∙◌}
use Rattle.resolved.specs.ProgramOf.{channel_entry}
use Rattle.layout.proofs.Tables.{made_more}
use Rattle.lowering.proofs.interface.channels_of.Goals as goal

pub loop-channel-preserved : goal.loop-channel-preserved
loop-channel-preserved c =
    let made : c.new.result ≡ channel_entry c.args.labels.now c.channel-item.result =
    cc (c.new.ensures, c.in_ok-clone.ensures.cases, c.in_ok-label.ensures) in
    made_more (channel_entry c.args.labels.now) c.args.channels.now c.loop-channel.made.items c.push.new.self.items c.loop-channel.channel-index c.channel-item.result c.new.result
    c.loop-channel-test.true c.in_ok-push.ensures.items c.loop-channel.invariant (made ∙ ap (channel_entry c.args.labels.now) c.channel-item.is)
