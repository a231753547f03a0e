use Rattle.std.proofs.Common.{◌≡◌, map, take}
use Rattle.std.specs.Prelude.{sum_by}
use Rattle.resolved.specs.ProgramOf.{procedure_entry}
use Rattle.gathering.specs.Names.{own_unknowns}
use Rattle.constraints.specs.Rows.{AreProcedureRows}
use Rattle.constraints.proofs.building.rows_of.Given as goal

abbrev pub invariant-loop-procedure : goal.invariant-loop-procedure
invariant-loop-procedure l = record {
  rows : AreProcedureRows l.labels 0 (map (procedure_entry l.labels) (take l.procedure-index l.procedures)) l.rows.items;
  count : l.first ≡ sum_by own_unknowns (map (procedure_entry l.labels) (take l.procedure-index l.procedures));
}
