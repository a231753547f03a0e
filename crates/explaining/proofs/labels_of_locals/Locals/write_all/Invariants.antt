use Rattle.std.proofs.Common.{map, take}
use Rattle.resolved.specs.ProgramOf.{slot_entry}
use Rattle.explaining.specs.Locals.{AreLines, locals_in}
use Rattle.explaining.specs.Text.{Writes}
use Rattle.explaining.proofs.labels_of_locals.Locals.write_all.Given as goal

-- the lines of the slots so far are written
abbrev pub invariant-loop-number : goal.invariant-loop-number
invariant-loop-number g l =
    Writes (AreLines l.self.marked.now.text.now l.self.checked.now (locals_in l.self.procedure 0 (map (slot_entry l.self.checked.now.core.labels) (take l.number l.slots))))
    (g.O.Sink.taken l.fn.out) (g.O.Sink.taken l.out)
