-- What it means that a machine keeps the meaning of a program: on every world both send the same and end the same way.
-- Source: our own; the correctness of a compiler by simulation in both directions, as for CompCert (Leroy 2009).
use Rattle.std.specs.Prelude.{◌≡◌, ℕ, List, Option, Some, None}
use Rattle.common.specs.declared.sent.Pair.{Pair}
use Rattle.labels.specs.Sent.{IsPrefix}
use Rattle.resolved.specs.declared.statement.Exit.TheVariants.{Normal, Return, Break, Continue, Throw}
use Rattle.resolved.specs.Program.{Program}
use Rattle.resolved.specs.SourceState.{World}
use Rattle.resolved.specs.Meaning.{Outcome, Ended, Stopped, Deep, OutOfFuel, run_within, frame_limit, sent_by}
use Rattle.modules.specs.Machine as machine

-- how a machine ends where a program does so; none for a run that is out of fuel, which has not ended, and for a `break` or a
-- `continue` out of a procedure, which no program has that is free of faults of its exits
abbrev pub ending_of : Outcome → Option machine.Ending
ending_of (Ended Normal returned s) = Some machine.Finished
ending_of (Ended Return returned s) = Some machine.Finished
ending_of (Ended Break returned s) = None
ending_of (Ended Continue returned s) = None
ending_of (Ended (Throw exception) returned s) = Some (machine.Threw exception)
ending_of (Stopped Deep s) = Some machine.Deep
ending_of (Stopped OutOfFuel s) = None

-- a machine by its world and how many steps it has made. What n steps send is a prefix of what the program sends with fuel n,
-- and what it sends with fuel k is a prefix of what some steps send; a machine that has ended within n steps has sent what the
-- program sends with fuel n, which ends so; and where the program ends with fuel k, so does the machine after some steps, and has sent the same
pub record SameMeaning (program : Program) (after : World → ℕ → machine.Machine) : Type 0 where
  pub no_more : (world : World) (n : ℕ) → IsPrefix (machine.sent_of (after world n)) (sent_by program world n)
  pub no_less : (world : World) (k : ℕ) → (n : ℕ) × IsPrefix (sent_by program world k) (machine.sent_of (after world n))
  pub ends_so : (world : World) (n : ℕ) (ending : machine.Ending) (sent : List Pair)
      → after world n ≡ machine.Ended ending sent
      → (ending_of (run_within frame_limit program world n) ≡ Some ending) × (sent_by program world n ≡ sent)
  pub ends_too : (world : World) (k : ℕ) (ending : machine.Ending)
      → ending_of (run_within frame_limit program world k) ≡ Some ending
      → (n : ℕ) × (after world n ≡ machine.Ended ending (sent_by program world k))
