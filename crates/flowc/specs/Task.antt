-- What a task asks for, and with which status it may end.
-- Source: our own.
use Rattle.std.specs.Prelude.{ℕ, ◌==◌, ◌||◌, length, Bool, true, false, Option, Some, None}
use Rattle.common.specs.declared.fault.OrNoMemory.{OrNoMemory}
use Rattle.common.specs.declared.fault.OrNoMemory.TheVariants as or
use Rattle.channels.specs.declared.sink.SinkFault.{SinkFault}
use Rattle.command_line.specs.Task.{paths_of}
use Rattle.command_line.specs.declared.request.Task.{Task}
use Rattle.command_line.specs.declared.request.Task.TheVariants.{Check, Build, Run, Explain, List as ListModule}
use Rattle.flowc.specs.declared.fault.PerformFault.{PerformFault}
use Rattle.flowc.specs.declared.fault.PerformFault.TheVariants.{Refused, CannotWrite, NoMemory}
use Rattle.machine.specs.declared.status.Status.{Status}
use Rattle.machine.specs.declared.status.Status.TheVariants.{Running, Finished, Threw, Deep, NoMemory}

-- how many files a task reads
abbrev pub files_of : Task → ℕ
files_of task = length (paths_of task)

-- whether a task leaves bytes for a file
abbrev pub makes_file : Task → Bool
makes_file (Check hierarchy source) = false
makes_file (Build hierarchy source out) = true
makes_file (Run file world under observer steps) = false
makes_file (ListModule file) = false
makes_file (Explain hierarchy source) = false

-- whether a task hands out the program that it checked
abbrev pub hands_out : Task → Bool
hands_out (Check hierarchy source) = true
hands_out (Build hierarchy source out) = true
hands_out (Run file world under observer steps) = false
hands_out (ListModule file) = false
hands_out (Explain hierarchy source) = false

-- whether a task looks at a source
abbrev pub reads_source : Task → Bool
reads_source (Check hierarchy source) = true
reads_source (Build hierarchy source out) = true
reads_source (Run file world under observer steps) = false
reads_source (ListModule file) = false
reads_source (Explain hierarchy source) = true

-- the status that reports how a run ended
abbrev pub status_of_end : Status → ℕ
status_of_end Finished = 0
status_of_end NoMemory = 3
status_of_end (Threw exception) = 4
status_of_end Deep = 5
status_of_end Running = 6

-- the same for a run that is shown to an observer, to whom its end is not reported, or to no one else than the operator
abbrev pub reported_status : Option ℕ → Status → ℕ
reported_status None end = status_of_end end
reported_status (Some observer) end = 0

-- the status that reports a fault: something that was read is refused, or a stream failed or memory ran out
abbrev pub status_of_fault : PerformFault → ℕ
status_of_fault (Refused line) = 1
status_of_fault CannotWrite = 3
status_of_fault NoMemory = 3

-- the fault of a task that has not written a text to its end
abbrev pub fault_of_view : OrNoMemory SinkFault → PerformFault
fault_of_view or.NoMemory = NoMemory
fault_of_view (or.Refused failed) = CannotWrite

-- whether a status is that of a task that is done or has a fault, or one that reports the end of a run
abbrev pub is_plain_status : ℕ → Bool
is_plain_status status = (status == 0) || ((status == 1) || (status == 3))

abbrev pub is_end_status : ℕ → Bool
is_end_status status = (status == 4) || ((status == 5) || (status == 6))

-- whether a task may end with a status: only a run that is not for an observer reports its end
abbrev pub may_end : Task → ℕ → Bool
may_end (Check hierarchy source) status = is_plain_status status
may_end (Build hierarchy source out) status = is_plain_status status
may_end (Run file world under None steps) status = is_plain_status status || is_end_status status
may_end (Run file world under (Some observer) steps) status = is_plain_status status
may_end (ListModule file) status = is_plain_status status
may_end (Explain hierarchy source) status = is_plain_status status
