-- The runs of a graph: those of the machine's table, where control goes from position to position.
-- Source: our own.
use Rattle.std.specs.Prelude.{ℕ, ◌+◌, List, slice_get, ℤ}
use Rattle.common.specs.declared.sent.Pair.{Pair}
use Rattle.modules.specs.Contents.{ModuleContents}
use Rattle.modules.specs.Machine.{MachineCode, machine_code, Machine, Running, first_state, exec, sent_of}
use Rattle.modules.specs.MachineParts.{code_of}

-- the program of a graph. The instruction at a position is the one with that number, and the next position is one more; else it is
-- what it is for a module: a handler holds an instruction where its range holds the instruction's position
abbrev pub graph_program : ModuleContents → MachineCode
graph_program graph = record (machine_code graph) {
  fetch = λ procedure position. slice_get (code_of (slice_get graph.procedures procedure)) position;
  next = λ procedure position. position + 1;
}

-- the machine after a number of steps of a graph on a world, which has a list of numbers for each channel
abbrev pub graph_after_steps : ModuleContents → (ℕ → List ℤ) → ℕ → Machine
graph_after_steps graph world n = exec (graph_program graph) n (Running (first_state graph world))

-- what a graph has sent on a world after a number of steps, or after fewer where the run has ended
abbrev pub graph_sent_after : ModuleContents → (ℕ → List ℤ) → ℕ → List Pair
graph_sent_after graph world n = sent_of (graph_after_steps graph world n)
