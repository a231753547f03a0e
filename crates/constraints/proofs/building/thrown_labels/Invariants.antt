use Rattle.std.proofs.Common.{◌≡◌, map, take}
use Rattle.constraints.specs.LeftSides.{Written}
use Rattle.path_map.specs.Exceptions.{exceptions_of}
use Rattle.resolved.specs.Program.{ThrownEntry}
use Rattle.resolved.specs.ProgramOf.{thrown_entry}
use Rattle.constraints.specs.Rows.{thrown_parts}
use Rattle.constraints.specs.declared.rows.ThrownLabel.{ThrownLabel}
use Rattle.constraints.proofs.building.thrown_labels.Given as goal

abbrev pub invariant-loop-thrown : goal.invariant-loop-thrown
invariant-loop-thrown l = record {
  exceptions : map (λ (thrown : ThrownLabel). thrown.exception) l.found.items ≡ exceptions_of (take l.thrown-index l.throws);
  meaning : thrown_parts l.labels l.found.items
      ≡ map (λ (entry : ThrownEntry). Written entry.label) (map (thrown_entry l.labels) (take l.thrown-index l.throws));
}
