use Rattle.constraints.specs.Ready.{entries_of}
use Rattle.constraints.proofs.Bodies.{ArePassed}
use Rattle.constraints.proofs.procedures.walk_procedures.Given as goal

abbrev pub invariant-loop-i : goal.invariant-loop-i
invariant-loop-i l =
    ArePassed l.table.core.now l.table.core.now.labels (entries_of l.ends) l.i l.progress
