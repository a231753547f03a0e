use Rattle.std.proofs.Common.{◌≡◌, List, map, take}
use Rattle.labels.specs.Label.{Label}
use Rattle.resolved.specs.ProgramOf.{slot_entry}
use Rattle.lowering.specs.Interface.{slot_contents}
use Rattle.lowering.proofs.procedures.slots_of.Given as goal

-- the slots so far are the first ones
abbrev pub invariant-loop-slot : goal.invariant-loop-slot
invariant-loop-slot l = (labels : List Label) →
    l.made.items ≡ map slot_contents (map (slot_entry labels) (take l.slot-index l.slots))
