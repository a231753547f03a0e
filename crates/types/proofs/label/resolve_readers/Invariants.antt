use Rattle.std.proofs.Common.{map}
use Rattle.syntax.specs.Tree.{name_tree}
use Rattle.types.specs.Finding.{put_last, of_each}
use Rattle.types.specs.Labels.{principal_finding}
use Rattle.types.proofs.Loops.{GoesOn}
use Rattle.types.proofs.label.resolve_readers.Given as goal

abbrev pub invariant-loop-name : goal.invariant-loop-name
invariant-loop-name l =
    GoesOn (put_last (principal_finding l.hierarchy)) name_tree l.names (of_each (principal_finding l.hierarchy) (map name_tree l.names)) l.numbers.items l.name-index
