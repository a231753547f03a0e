use Rattle.std.proofs.Common.{◌≡◌, map, replicate, take}
use Rattle.stack.specs.Slab.{cells_in}
use Rattle.stack.proofs.shape.count_scalars.Given as goal

-- the slots so far are scalars
abbrev pub invariant-loop-slot : goal.invariant-loop-slot
invariant-loop-slot l = record {
  count_is : l.count ≡ l.slot-index;
  scalars : map cells_in (take l.slot-index l.slots) ≡ replicate l.slot-index 1;
}
