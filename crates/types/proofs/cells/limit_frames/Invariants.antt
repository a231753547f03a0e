use Rattle.resolved.specs.ProgramOf.{procedure_entry}
use Rattle.types.specs.Resolution.{next_frame}
use Rattle.types.specs.Views.{tables_view}
use Rattle.types.proofs.Loops.{GoesOn}
use Rattle.types.proofs.cells.limit_frames.Given as goal
use Rattle.common.specs.Results.{along}

abbrev pub invariant-loop-procedure : goal.invariant-loop-procedure
invariant-loop-procedure l =
    GoesOn next_frame (procedure_entry l.tables.variables.labels) l.procedure-items (along next_frame tt (tables_view l.tables).procedures) tt l.procedure-index
