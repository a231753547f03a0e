use Rattle.std.proofs.Common.{◌≡◌, map, take}
use Rattle.stack.specs.Slab.{cells_in, total}
use Rattle.stack.proofs.shape.cells_of.Given as goal

-- the cells of the slots so far
abbrev pub invariant-loop-slot : goal.invariant-loop-slot
invariant-loop-slot l = l.size ≡ total (map cells_in (take l.slot-index l.slots))
