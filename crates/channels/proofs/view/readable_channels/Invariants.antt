use Rattle.std.proofs.Common.{◌≡◌, map, take}
use Rattle.std.specs.Prelude.{option_map}
use Rattle.labels.specs.Label.{may_read}
use Rattle.channels.specs.View.{renumbered}
use Rattle.channels.proofs.view.readable_channels.Given as goal

-- the answers of the channels so far
abbrev pub invariant-loop-channel : goal.invariant-loop-channel
invariant-loop-channel l =
    l.answers.items ≡ map (λ channel. may_read l.hierarchy l.principal (renumbered (option_map (λ r. r.now) l.numbers) channel.label)) (take l.channel-index l.channel-items)
