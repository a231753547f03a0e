use Rattle.std.proofs.Common.{◌≡◌, ℕ, List, [], take}
use Rattle.channels.specs.Table.{table_of}
use Rattle.channels.specs.WorldText.{table_after, texts_of}
use Rattle.channels.proofs.world_read.empty_table.Given as goal

-- the names so far are there
abbrev pub invariant-loop-name : goal.invariant-loop-name
invariant-loop-name l = (name : List ℕ) → table_of l.inputs name ≡ table_after (texts_of (take l.name-index l.names)) [] name
