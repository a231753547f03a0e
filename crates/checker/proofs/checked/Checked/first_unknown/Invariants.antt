use Rattle.std.proofs.Common.{◌≡◌, ◌≤◌, map, take}
use Rattle.std.specs.Prelude.{sum_by}
use Rattle.resolved.specs.ProgramOf.{procedure_entry}
use Rattle.gathering.specs.Names.{own_unknowns}
use Rattle.checker.proofs.checked.Checked.first_unknown.Given as goal

abbrev pub invariant-loop-number : goal.invariant-loop-number
invariant-loop-number l = record {
  before : l.number ≤ l.procedure;
  count : l.first ≡ sum_by own_unknowns (map (procedure_entry l.self.core.labels) (take l.number l.entry-items));
}
