-- The number of a local of a program of the code among all unknowns.
use Rattle.std.proofs.Common.{◌≡◌, ◌<◌, ◌+◌, ℕ, ap, arith, get_or, length, map, take}
use Rattle.std.specs.Prelude.{sum_by}
use Rattle.std.proofs.lemmas.List.{take-map}
use Rattle.resolved.specs.CoreOf.{program_of}
use Rattle.resolved.specs.ProgramOf.{procedure_entry}
use Rattle.resolved.specs.declared.program.Core.{Core}
use Rattle.resolved.specs.declared.tables.Procedure.{Procedure}
use Rattle.gathering.specs.Names.{own_unknowns, unknowns_before}
use Rattle.gathering.proofs.Few.{core-few}

-- it fits 32 bits
pub local-few : (core : Core) (f n : ℕ) (entry : Procedure) → f < length core.procedures.items → entry ≡ get_or core.procedures.items f entry → n < length entry.slots.items
    → unknowns_before (program_of core) f + n < 4294967296
local-few core f n entry within is inside =
    let counted : unknowns_before (program_of core) f ≡ sum_by own_unknowns (map (procedure_entry core.labels) (take f core.procedures.items)) =
    ap (sum_by own_unknowns) (take-map (procedure_entry core.labels) f core.procedures.items) in
    let few = core-few core f (unknowns_before (program_of core) f) entry counted within is in
    omega (arith, few, inside)
