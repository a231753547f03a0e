use Rattle.std.proofs.Common.{refl, ap, ◌∙◌, ◌≤◌, map, arith}
use Rattle.std.specs.Prelude.{sum_by}
use Rattle.resolved.specs.ProgramOf.{procedure_entry}
use Rattle.gathering.specs.Names.{own_unknowns, real_unknowns}
use Rattle.gathering.proofs.Few.{real-few}
use Rattle.resolved.specs.CoreOf.{program_of}
use Rattle.constraints.proofs.Tables.{table-made}
use Rattle.constraints.proofs.table.Table.of.Goals as goal

pub rows_of-requires : goal.rows_of-requires
rows_of-requires c =
    let core = c.args.core.now in
    let few : real_unknowns (program_of core) ≤ 1048576 = real-few (program_of core) core.well_formed in
    let same = ap (λ list. sum_by own_unknowns (map (procedure_entry core.labels) list)) c.deref.ensures.value in
    omega (arith, few, same)

pub invariant_of-result : goal.invariant_of-result
invariant_of-result c =
    let core = c.args.core.now in
    record {
      are = table-made core c.least_part-nothing.result c.in_ok-rows.rows.items _ c.deref.result.now c.in_ok-rows.unknowns
          c.least_part-nothing.ensures c.in_ok-rows.ensures.rows c.in_ok-rows.ensures.count c.deref.ensures.value
          refl refl refl c.new.ensures.items c.new-2.ensures.items refl refl;
      count = c.in_ok-rows.ensures.count ∙ ap (λ list. sum_by own_unknowns (map (procedure_entry core.labels) list)) c.deref.ensures.value;
    }
