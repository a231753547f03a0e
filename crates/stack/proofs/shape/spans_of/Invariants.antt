use Rattle.std.proofs.Common.{◌≡◌, ◌+◌, map, take}
use Rattle.stack.specs.Slab.{cells_in, total, spans_of}
use Rattle.stack.proofs.shape.spans_of.Given as goal

-- the spans of the slots so far, and where they end
abbrev pub invariant-loop-slot : goal.invariant-loop-slot
invariant-loop-slot l = record {
  spans_are : l.spans.items ≡ spans_of l.scalars (map cells_in (take l.slot-index l.slots));
  start_is : l.start ≡ l.scalars + total (map cells_in (take l.slot-index l.slots));
}
