use Rattle.std.proofs.Common.{◌≡◌, List, map, take}
use Rattle.std.specs.Prelude.{All}
use Rattle.labels.specs.Label.{Label}
use Rattle.resolved.specs.Program.{GlobalEntry}
use Rattle.resolved.specs.ProgramOf.{global_entry}
use Rattle.lowering.specs.Fitting.{IsShortValue}
use Rattle.lowering.specs.Interface.{global_contents}
use Rattle.lowering.proofs.interface.globals_of.Given as goal

-- the globals so far are the first ones, whose values are of 32 bits
abbrev pub invariant-loop-variable : goal.invariant-loop-variable
invariant-loop-variable l = (labels : List Label) →
    (l.made.items ≡ map global_contents (map (global_entry labels) (take l.variable-index l.globals)))
    × All (λ (entry : GlobalEntry). IsShortValue entry.first) (map (global_entry labels) (take l.variable-index l.globals))
