use Rattle.std.proofs.Common.{take}
use Rattle.constraints.specs.Following.{IsOver}
use Rattle.constraints.specs.Merging.{HasMore, parts_of}
use Rattle.constraints.proofs.merging.add_all.Given as goal

abbrev pub invariant-loop-part : goal.invariant-loop-part
invariant-loop-part l = record {
  more : HasMore (IsOver l.following) (take l.part-index l.left) (parts_of l.fn.parts) (parts_of l.parts);
}
