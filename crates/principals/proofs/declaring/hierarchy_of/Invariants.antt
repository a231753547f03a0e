use Rattle.std.proofs.Common.{take}
use Rattle.principals.specs.Reading.{IsBuilt, entries_of}
use Rattle.principals.specs.Table.{names_of}
use Rattle.principals.proofs.declaring.hierarchy_of.Given as goal

-- the statements so far have built the names and the pairs
abbrev pub invariant-loop-statement : goal.invariant-loop-statement
invariant-loop-statement l = IsBuilt (entries_of (take l.statement-index l.statements)) (record { names = names_of l.names; pairs = l.pairs.items })
