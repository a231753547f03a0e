use Rattle.std.proofs.Common.{◌≡◌, map, filter, take}
use Rattle.channels.specs.World.{is_input}
use Rattle.channels.specs.WorldText.{texts_of}
use Rattle.channels.proofs.world_read.names_of.Given as goal

-- the names of the inputs so far
abbrev pub invariant-loop-channel : goal.invariant-loop-channel
invariant-loop-channel l = texts_of l.names.items ≡ map (λ c. c.name) (filter (λ c. is_input c.direction) (take l.channel-index l.channels))
