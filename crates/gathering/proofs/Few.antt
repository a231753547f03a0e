-- The unknowns of a program are few: their numbers fit 32 bits.
use Rattle.std.proofs.Common.{◌≡◌, ℕ, zero, suc, [], ◌∷◌, ◌+◌, ◌<◌, ◌≤◌, List, length, map, take, get_or, ap, sym, refl, arith, leb-true}
use Rattle.std.specs.Prelude.{IsTrue, slice_index_or, sum_by}
use Rattle.std.proofs.lemmas.List.{take-map}
use Rattle.std.proofs.lemmas.List.Recursion.{is_sum_by}
use Rattle.std.proofs.lemmas.List.Sums.{sum_by-cons, sum_by-take-le}
use Rattle.labels.specs.Label.{Label}
use Rattle.resolved.specs.Program.{Program, ProcedureEntry, procedure_at}
use Rattle.resolved.specs.ProgramOf.{procedure_entry}
use Rattle.resolved.specs.WellFormed.{node_limit, procedure_nodes, program_nodes, well_formed}
use Rattle.resolved.specs.CoreOf.{program_of}
use Rattle.resolved.specs.declared.program.Core.{Core}
use Rattle.resolved.specs.declared.tables.Procedure.{Procedure}
use Rattle.resolved.proofs.WellFormedParts.{program_parts}
use Rattle.gathering.specs.Names.{own_unknowns, real_unknowns, unknowns_before}
use Rattle.gathering.proofs.Before.{before-next}
use Rattle.gathering.proofs.Counted.{real-count}
use Rattle.gathering.proofs.Numbers.{total-sum}
use Rattle.gathering.proofs.Small.{nodes_in}

-- counted from procedure to procedure
pub counted-within : (labels : List Label) (ps : List Procedure) (n first : ℕ) (x : Procedure)
    → first ≡ sum_by own_unknowns (map (procedure_entry labels) (take n ps))
    → n < length ps → x ≡ get_or ps n x → first + (length x.slots.items + x.loops) ≤ sum_by own_unknowns (map (procedure_entry labels) ps)
counted-within labels ps n first x counted within is =
    let next : first + (length x.slots.items + x.loops) ≡ sum_by own_unknowns (map (procedure_entry labels) (take (n + 1) ps)) =
    before-next labels ps n first counted x (first + (length x.slots.items + x.loops)) within is refl in
    let front : sum_by own_unknowns (map (procedure_entry labels) (take (n + 1) ps)) ≡ sum_by own_unknowns (take (n + 1) (map (procedure_entry labels) ps)) =
    ap (sum_by own_unknowns) (sym (take-map (procedure_entry labels) (n + 1) ps)) in
    omega (arith, next, front, sum_by-take-le own_unknowns (map (procedure_entry labels) ps) (n + 1))

-- those of a well-formed program
pub real-few : (program : Program) → IsTrue (well_formed program) → real_unknowns program ≤ 1048576
real-few program formed =
    let parts = program_parts program formed in
    let i = real-count program program.procedures parts.procedures_fit in
    let j = total-sum program.procedures in
    let k : nodes_in program.procedures ≡ sum_by procedure_nodes program.procedures = is_sum_by nodes_in procedure_nodes refl (λ x xs. refl) program.procedures in
    let l : program_nodes program ≤ node_limit = leb-true (program_nodes program) node_limit parts.nodes_fit in
    omega (arith, i, j, k, l)

-- those up to a procedure, with its own
upto-within : (ps : List ProcedureEntry) (f : ℕ) (none : ProcedureEntry) → own_unknowns none ≡ 0
    → sum_by own_unknowns (take f ps) + own_unknowns (slice_index_or ps f none) ≤ sum_by own_unknowns ps
upto-within [] zero none empty = omega (arith, empty)
upto-within [] (suc f) none empty = omega (arith, empty)
upto-within (p ∷ ps) zero none empty = omega (arith, sum_by-cons own_unknowns p ps)
upto-within (p ∷ ps) (suc f) none empty =
    omega (arith, upto-within ps f none empty, sum_by-cons own_unknowns p ps, sum_by-cons own_unknowns p (take f ps))

pub before-few : (program : Program) → IsTrue (well_formed program) → (f : ℕ)
    → unknowns_before program f + own_unknowns (procedure_at program f) ≤ 1048576
before-few program formed f =
    let own : unknowns_before program f + own_unknowns (procedure_at program f) ≤ real_unknowns program = upto-within program.procedures f _ refl in
    omega (arith, own, real-few program formed)

-- so those of a program of the code are, wherever they have been counted to
pub core-few : (core : Core) (n first : ℕ) (x : Procedure)
    → first ≡ sum_by own_unknowns (map (procedure_entry core.labels) (take n core.procedures.items))
    → n < length core.procedures.items → x ≡ get_or core.procedures.items n x → first + (length x.slots.items + x.loops) ≤ 1048576
core-few core n first x counted within is =
    let few : real_unknowns (program_of core) ≤ 1048576 = real-few (program_of core) core.well_formed in
    omega (arith, few, counted-within core.labels core.procedures.items n first x counted within is)
