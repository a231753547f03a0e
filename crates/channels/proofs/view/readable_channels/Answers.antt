use Rattle.std.proofs.Common.{◌≡◌, ◌∙◌, Bool, ap, map, take}
use Rattle.std.specs.Prelude.{option_map}
use Rattle.std.proofs.lemmas.List.{take_all}
use Rattle.labels.specs.Label.{may_read}
use Rattle.labels.specs.Channel.{ChannelContents}
use Rattle.channels.specs.View.{renumbered}
use Rattle.channels.proofs.Views.{answers_are}
use Rattle.channels.proofs.view.readable_channels.Goals as goal

pub returns : goal.returns
returns c =
    let reads : ChannelContents → Bool = λ channel. may_read c.args.hierarchy.now c.args.principal (renumbered (option_map (λ r. r.now) c.args.numbers) channel.label) in
    let before : c.loop-channel.answers.items ≡ map reads (take c.loop-channel.channel-index c.channels-channel-items.result.now) = c.loop-channel.invariant in
    before
    ∙ ap (map reads) (take_all c.loop-channel.channel-index c.channels-channel-items.result.now c.loop-channel-test.false ∙ c.channels-channel-items.ensures)
    ∙ answers_are c.args.hierarchy.now c.args.program.now (option_map (λ r. r.now) c.args.numbers) c.args.principal c.requires
