use Rattle.std.proofs.Common.{◌≡◌, map, take}
use Rattle.resolved.specs.ProgramOf.{slot_entry}
use Rattle.constraints.specs.LeftSides.{left_parts}
use Rattle.constraints.specs.Rows.{slot_parts}
use Rattle.constraints.proofs.building.slot_parts.Given as goal

abbrev pub invariant-loop-i : goal.invariant-loop-i
invariant-loop-i l = left_parts l.labels l.atoms.items ≡ slot_parts l.first (map (slot_entry l.labels) (take l.i l.slots))
