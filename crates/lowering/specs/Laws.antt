-- Private: what holds of the graph of every well-formed program without a fault of its exits, and of the module that it is laid out as.
-- Source: our own.
use Rattle.std.specs.Prelude.{◌≡◌, [], All, IsTrue}
use Rattle.layout.specs.Graph.{HasPositions}
use Rattle.layout.specs.Offsets.{laid_out}
use Rattle.layout.specs.Runs.{graph_after_steps}
use Rattle.modules.specs.ByteFormat.{Fits}
use Rattle.modules.specs.Format.{module_file}
use Rattle.resolved.specs.Labelled.{exit_faults}
use Rattle.resolved.specs.Names.{HasNames}
use Rattle.resolved.specs.Program.{Program}
use Rattle.resolved.specs.WellFormed.{well_formed}
use Rattle.verifier.specs.Refusals.{IsNotRefused}
use Rattle.verifier.specs.Safety.{IsNeverStuck}
use Rattle.lowering.specs.Direct.{HasDirectJumps}
use Rattle.lowering.specs.Fitting.{HasShortValues}
use Rattle.lowering.specs.Graphs.{graph_of}
use Rattle.lowering.specs.SameMeaning.{SameMeaning}

-- the graph keeps the meaning
abbrev pub GraphsKeepMeaning : Type 0
GraphsKeepMeaning = (program : Program) → IsTrue (well_formed program) → exit_faults program ≡ []
    → SameMeaning program (graph_after_steps (graph_of program))

-- its targets are positions of its procedures' code
abbrev pub GraphsHavePositions : Type 0
GraphsHavePositions = (program : Program) → IsTrue (well_formed program) → exit_faults program ≡ []
    → All HasPositions (graph_of program).procedures

-- no jump leads to an unconditional jump
abbrev pub GraphsHaveDirectJumps : Type 0
GraphsHaveDirectJumps = (program : Program) → IsTrue (well_formed program) → exit_faults program ≡ []
    → All HasDirectJumps (graph_of program).procedures

-- it is within the limits of the module file, where the names are as a file keeps them
abbrev pub GraphsFitTheFile : Type 0
GraphsFitTheFile = (program : Program) → IsTrue (well_formed program) → exit_faults program ≡ [] → HasNames program
    → HasShortValues program → Fits module_file (graph_of program)

-- the module is not refused
abbrev pub ModulesAreNotRefused : Type 0
ModulesAreNotRefused = (program : Program) → IsTrue (well_formed program) → exit_faults program ≡ []
    → IsNotRefused (laid_out (graph_of program))

-- so no run of it is stuck, where the graph fits the module file
abbrev pub ModulesAreNeverStuck : Type 0
ModulesAreNeverStuck = (program : Program) → IsTrue (well_formed program) → exit_faults program ≡ []
    → Fits module_file (graph_of program) → IsNeverStuck (laid_out (graph_of program))
