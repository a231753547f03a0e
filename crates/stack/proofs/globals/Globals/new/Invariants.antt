use Rattle.std.proofs.Common.{◌≡◌, map, take}
use Rattle.std.specs.List.{flat_map}
use Rattle.modules.specs.Machine.{first_global}
use Rattle.modules.specs.MachineParts.{slot_of}
use Rattle.stack.proofs.globals.Globals.new.Given as goal

-- the slots and the cells of the globals so far
abbrev pub invariant-loop-global : goal.invariant-loop-global
invariant-loop-global l = record {
  slots_are : l.slots.items ≡ map slot_of (take l.global-index l.globals);
  cells_are : l.cells.items ≡ flat_map first_global (take l.global-index l.globals);
}
