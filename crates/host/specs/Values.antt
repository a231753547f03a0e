-- The hosts, events, answers and results of the code as those of the meaning.
-- Source: our own.
use Rattle.std.specs.Prelude.{ℕ, List, Option, Some, None, Result, Ok, Err, map}
use Rattle.std.specs.Global.{Vec}
use Rattle.principals.specs.ActsFor.{PrincipalHierarchy}
use Rattle.common.specs.declared.sent.Pair.{Pair}
use Rattle.machine.specs.Run.{RunContents, machine_of}
use Rattle.machine.specs.declared.status.Status.{Status}
use Rattle.host.specs.Meaning as meaning
use Rattle.host.specs.Meaning.{SessionContents, HostContents, HostEvent, HostAnswer, hierarchy_under}
use Rattle.common.specs.declared.fault.OrNoMemory.{OrNoMemory}
use Rattle.host.specs.declared.fault.HostRefusal.{HostRefusal}
use Rattle.host.specs.declared.event.Event.{Event}
use Rattle.host.specs.declared.event.Event.TheVariants.{Open, OpenUnder, Turn, View, Close}
use Rattle.host.specs.declared.event.Answer.{Answer}
use Rattle.host.specs.declared.event.Answer.TheVariants.{Opened, Turned, Viewed, Closed, Refused}

-- an open session: its id, the run of its machine, and the hierarchy under which it was opened, if one was given
pub record SessionRun : Type 0 where
  pub id : ℕ
  pub run : RunContents
  pub under : Option PrincipalHierarchy

-- a host by the runs of its sessions
pub record HostRuns : Type 0 where
  pub next : ℕ
  pub sessions : List SessionRun

abbrev pub contents_of : SessionRun → SessionContents
contents_of session = record {
  id = session.id;
  program = session.run.program;
  hierarchy = hierarchy_under session.under session.run.program;
  machine = machine_of session.run;
}

-- such a host as one of the meaning
abbrev pub host_of : HostRuns → HostContents
host_of host = record { next = host.next; sessions = map contents_of host.sessions }

-- an event and an answer as those of the meaning
abbrev pub event_of : Event → HostEvent
event_of (Open bytes world) = meaning.Open bytes.items world None
event_of (OpenUnder bytes world hierarchy) = meaning.Open bytes.items world (Some hierarchy)
event_of (Turn id n) = meaning.Turn id n
event_of (View id p) = meaning.View id p
event_of (Close id) = meaning.Close id

abbrev pub answer_of : Answer → HostAnswer
answer_of (Opened id) = meaning.Opened id
answer_of (Turned taken status) = meaning.Turned taken status
answer_of (Viewed pairs) = meaning.Viewed pairs.items
answer_of Closed = meaning.Closed
answer_of (Refused fault) = meaning.Refused fault

-- the result of each single call as an answer
abbrev pub opened_or : Result ℕ (OrNoMemory HostRefusal) → HostAnswer
opened_or (Ok id) = meaning.Opened id
opened_or (Err fault) = meaning.Refused fault

abbrev pub turned_or : Result (ℕ × Status) (OrNoMemory HostRefusal) → HostAnswer
turned_or (Ok reported) = meaning.Turned reported.0 reported.1
turned_or (Err fault) = meaning.Refused fault

abbrev pub viewed_or : Result (Vec Pair) (OrNoMemory HostRefusal) → HostAnswer
viewed_or (Ok pairs) = meaning.Viewed pairs.items
viewed_or (Err fault) = meaning.Refused fault

abbrev pub closed_or : {U : Type 0} → Result U (OrNoMemory HostRefusal) → HostAnswer
closed_or (Ok unit) = meaning.Closed
closed_or (Err fault) = meaning.Refused fault
