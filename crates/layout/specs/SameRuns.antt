-- What it means that a module runs as a graph does: after each number of steps its machine is the graph's, with byte offsets instead
-- of positions.
-- Source: our own; a renaming of states that commutes with each step.
use Rattle.std.specs.Prelude.{◌≡◌, ◌↔◌, ℕ, List, map, ℤ}
use Rattle.common.specs.declared.sent.Pair.{Pair}
use Rattle.modules.specs.Contents.{ModuleContents}
use Rattle.modules.specs.Machine.{Frame, Caller, State, Machine, Running, Ended, Stuck, Ending, header_of, after_steps, sent_after}
use Rattle.layout.specs.Offsets.{offset_in, laid_out}
use Rattle.layout.specs.Runs.{graph_after_steps, graph_sent_after}

-- ---- states with other positions; the renaming takes a procedure and a position

abbrev pub renamed_frame : (ℕ → ℕ → ℕ) → Frame → Frame
renamed_frame rename frame = record frame { position = rename frame.procedure frame.position }

abbrev pub renamed_caller : (ℕ → ℕ → ℕ) → Caller → Caller
renamed_caller rename caller =
    record { frame = renamed_frame rename caller.frame; resume = rename caller.frame.procedure caller.resume }

abbrev pub renamed_state : (ℕ → ℕ → ℕ) → State → State
renamed_state rename s =
    record s { frame = renamed_frame rename s.frame; callers = map (renamed_caller rename) s.callers }

abbrev pub renamed : (ℕ → ℕ → ℕ) → Machine → Machine
renamed rename (Running s) = Running (renamed_state rename s)
renamed rename (Ended ending sent) = Ended ending sent
renamed rename (Stuck sent) = Stuck sent

-- ---- runs

-- on every world and after each number of steps the module's machine is the graph's at the offsets of its positions. So both have
-- sent the same, and the one has ended or is stuck exactly where the other has ended so or is stuck
pub record SameRuns (graph m : ModuleContents) : Type 0 where
  pub steps : (world : ℕ → List ℤ) (n : ℕ)
      → after_steps m world n ≡ renamed (offset_in graph) (graph_after_steps graph world n)
  pub sends : (world : ℕ → List ℤ) (n : ℕ) → sent_after m world n ≡ graph_sent_after graph world n
  pub ends : (world : ℕ → List ℤ) (n : ℕ) (ending : Ending) (sent : List Pair)
      → (after_steps m world n ≡ Ended ending sent) ↔ (graph_after_steps graph world n ≡ Ended ending sent)
  pub stuck : (world : ℕ → List ℤ) (n : ℕ) (sent : List Pair)
      → (after_steps m world n ≡ Stuck sent) ↔ (graph_after_steps graph world n ≡ Stuck sent)

-- the module that a graph is laid out as runs as the graph does
abbrev pub LayoutKeepsRuns : Type 0
LayoutKeepsRuns = (graph : ModuleContents) → SameRuns graph (laid_out graph)

-- ---- what shows before any run

-- a module has the version, the hierarchy, the exceptions, the channels and the globals of a graph, starts in the procedure of the same number,
-- and its procedures have the same results, parameters and slots
pub record SameInterface (graph m : ModuleContents) : Type 0 where
  pub version : m.version ≡ graph.version
  pub hierarchy : m.hierarchy ≡ graph.hierarchy
  pub exceptions : m.exceptions ≡ graph.exceptions
  pub channels : m.channels ≡ graph.channels
  pub globals : m.globals ≡ graph.globals
  pub main : m.main ≡ graph.main
  pub headers : map header_of m.procedures ≡ map header_of graph.procedures
