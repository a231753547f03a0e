use Rattle.std.proofs.Common.{◌≡◌, drop, map}
use Rattle.std.specs.List.{list_any}
use Rattle.resolved.specs.BitUse.{block_uses_bits, procedures_use_bits}
use Rattle.resolved.specs.CoreOf.{program_of}
use Rattle.resolved.specs.Program.{ProcedureEntry}
use Rattle.resolved.specs.ProgramOf.{procedure_entry}
use Rattle.lowering.proofs.versions.uses_bits.Given as goal

abbrev pub invariant-loop-procedure : goal.invariant-loop-procedure
invariant-loop-procedure l =
    list_any (λ (procedure : ProcedureEntry). block_uses_bits procedure.body) (map (procedure_entry l.core.labels) (drop l.procedure-index l.core.procedures.items))
    ≡ procedures_use_bits (program_of l.core).procedures
