use Rattle.std.proofs.Common.{◌≡◌, map, take}
use Rattle.resolved.specs.ProgramOf.{channel_entry}
use Rattle.lowering.proofs.interface.channels_of.Given as goal

-- the channels so far are the first ones
abbrev pub invariant-loop-channel : goal.invariant-loop-channel
invariant-loop-channel l = l.made.items ≡ map (channel_entry l.labels) (take l.channel-index l.channels)
