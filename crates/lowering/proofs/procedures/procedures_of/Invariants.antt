use Rattle.std.proofs.Common.{◌≡◌, map, take}
use Rattle.resolved.specs.CoreOf.{program_of}
use Rattle.resolved.specs.ProgramOf.{procedure_entry}
use Rattle.lowering.specs.Graphs.{procedure_contents}
use Rattle.lowering.proofs.procedures.procedures_of.Given as goal

-- the procedures so far are the first ones
abbrev pub invariant-loop-procedure : goal.invariant-loop-procedure
invariant-loop-procedure l =
    l.made.items ≡ map (procedure_contents (program_of l.core)) (map (procedure_entry l.core.labels) (take l.procedure-index l.core.procedures.items))
