use Rattle.std.proofs.Common.{◌≡◌, take}
use Rattle.layout.proofs.layout.copy_channels.Given as goal

-- the channels so far
abbrev pub invariant-loop-channel : goal.invariant-loop-channel
invariant-loop-channel l = l.made.items ≡ take l.channel-index l.channels
