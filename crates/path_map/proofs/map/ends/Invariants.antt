use Rattle.std.proofs.Common.{map, drop}
use Rattle.resolved.specs.CoreOf.{program_of}
use Rattle.resolved.specs.ProgramOf.{procedure_entry}
use Rattle.path_map.proofs.Procedures.{WithEnds}
use Rattle.path_map.proofs.map.ends.Given as goal

abbrev pub invariant-loop-procedure : goal.invariant-loop-procedure
invariant-loop-procedure l =
    WithEnds (program_of l.core) (map (procedure_entry l.core.labels) l.core.procedures.items) (map (procedure_entry l.core.labels) (drop l.procedure-index l.procedure-items)) l.table
