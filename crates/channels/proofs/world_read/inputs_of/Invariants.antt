use Rattle.std.proofs.Common.{◌≡◌, map, take}
use Rattle.channels.specs.Table.{table_of}
use Rattle.channels.specs.WorldText.{input_of, texts_of}
use Rattle.channels.proofs.world_read.inputs_of.Given as goal

-- the inputs of the names so far
abbrev pub invariant-loop-name : goal.invariant-loop-name
invariant-loop-name l = l.lists.items ≡ map (input_of (table_of l.inputs)) (texts_of (take l.name-index l.names))
