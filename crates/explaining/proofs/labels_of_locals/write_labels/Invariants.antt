use Rattle.std.proofs.Common.{◌≡◌, map, take}
use Rattle.std.specs.Prelude.{sum_by}
use Rattle.gathering.specs.Names.{own_unknowns}
use Rattle.resolved.specs.ProgramOf.{procedure_entry}
use Rattle.explaining.specs.Locals.{AreLines, locals_from}
use Rattle.explaining.specs.Text.{Writes}
use Rattle.explaining.proofs.labels_of_locals.write_labels.Given as goal

-- the lines of the procedures so far are written, and their unknowns are counted
abbrev pub invariant-loop-number : goal.invariant-loop-number
invariant-loop-number g l = record {
  written : Writes (AreLines l.source l.checked (locals_from 0 (map (procedure_entry l.checked.core.labels) (take l.number l.checked.core.procedures.items))))
      (g.O.Sink.taken l.fn.out) (g.O.Sink.taken l.out);
  counted : l.first ≡ sum_by own_unknowns (map (procedure_entry l.checked.core.labels) (take l.number l.checked.core.procedures.items));
}
