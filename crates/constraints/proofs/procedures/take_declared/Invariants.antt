use Rattle.std.proofs.Common.{◌≡◌, ℕ, ◌<◌, length, List, map, take}
use Rattle.labels.specs.Label.{Label}
use Rattle.resolved.specs.ProgramOf.{thrown_entry}
use Rattle.constraints.specs.Procedures.{AreDeclaredExitUnknowns}
use Rattle.constraints.specs.ExitUnknowns.{AreWithin}
use Rattle.constraints.proofs.procedures.take_declared.Given as goal

abbrev pub invariant-loop-i : goal.invariant-loop-i
invariant-loop-i l = record {
  wide : length l.thrown.items ≡ length l.fn.thrown.items;
  taken : (labels : List Label) (barrier : ℕ) → barrier < l.level → AreWithin barrier l.fn.thrown.items →
      AreDeclaredExitUnknowns (map (thrown_entry labels) (take l.i l.throws)) l.number l.level l.fn.thrown.items l.thrown.items;
}
