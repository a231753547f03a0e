-- What calls on the host of a handle do, and what they reply in numbers.
-- Source: our own.
use Rattle.std.specs.Prelude.{◌≡◌, ℕ, List, map, Option, Some, None}
use Rattle.std.specs.Option.{option_map}
use Rattle.common.specs.declared.fault.OrNoMemory.TheVariants as faults
use Rattle.host.specs.RefusalKinds.{host_message}
use Rattle.host.specs.Meaning.{HostContents, HostEvent, Turn, View, HostAnswer, Opened, Turned, Viewed, Closed, Refused, MayAnswer, HasSent, IsNotOpen}
use Rattle.host.specs.Values.{HostRuns, host_of}
use Rattle.host.specs.declared.fault.HostRefusal.{HostRefusal}
use Rattle.host.specs.declared.fault.HostRefusal.TheVariants.{Full, UnknownId, UnknownPrincipal, Load, New, NotContained}
use Rattle.host.specs.declared.hosts.TheConstants.{MAX_SESSIONS}
use Rattle.common.specs.declared.sent.Pair.{Pair}
use Rattle.machine.specs.declared.status.Status.{Status}
use Rattle.machine.specs.declared.status.Status.TheVariants as runs
use Rattle.verifier.specs.declared.loading.LoadRefusal.TheVariants.{Bytes, Code}
use Rattle.flowc_c.specs.Buffer.{IsPut, IsTooShort}
use Rattle.flowc_c.specs.declared.outcome.TheConstants.{DONE, REFUSED, NO_MEMORY}
use Rattle.flowc_c.specs.declared.reply.Reply.{Reply}
use Rattle.flowc_c.specs.declared.reply.TheConstants.{NO_HOST}
use Rattle.flowc_c.specs.declared.views_c.ShownPair.{ShownPair}

-- ---- the host of a handle

-- the host that a handle holds, if it holds one, as one of the meaning
abbrev pub hosted : Option HostRuns → Option HostContents
hosted held = option_map host_of held

-- a handle's host is asked an event, gives an answer that it may give, and is then so
pub record GivesAnswer (old : Option HostContents) (event : HostEvent) (answer : HostAnswer) (new : Option HostContents) : Type 0 where
  pub before : HostContents
  pub after : HostContents
  pub held : old ≡ Some before
  pub holds : new ≡ Some after
  pub may_answer : MayAnswer MAX_SESSIONS before event answer after

-- the same of a handle that may hold no host: then nothing is answered, and it holds none afterwards
abbrev pub Asked : (old : Option HostRuns) → HostEvent → Option HostAnswer → (new : Option HostRuns) → Type 0
Asked (Some old) event (Some answer) (Some new) = MayAnswer MAX_SESSIONS (host_of old) event answer (host_of new)
Asked None event None None = Unit {0}
Asked old event answer new = ⊥

-- ---- refusals

-- what of a call a host refuses, and where: the bytes of a module from a byte on, the code of a procedure at a byte, a world that is
-- not for the module's inputs, or the event itself
abbrev pub SaysPlaceOfHost : HostRefusal → Reply → Type 0
SaysPlaceOfHost (Load (Bytes refusal)) reply = (reply.text ≡ 2) × (reply.offset ≡ refusal.at)
SaysPlaceOfHost (Load (Code refusal)) reply =
    (reply.text ≡ 3) × (reply.procedure ≡ refusal.procedure) × (reply.offset ≡ refusal.offset)
SaysPlaceOfHost (New refusal) reply = reply.text ≡ 4
SaysPlaceOfHost Full reply = reply.text ≡ 5
SaysPlaceOfHost UnknownId reply = reply.text ≡ 5
SaysPlaceOfHost UnknownPrincipal reply = reply.text ≡ 5
SaysPlaceOfHost NotContained reply = reply.text ≡ 5

pub record SaysHostRefusal (refusal : HostRefusal) (reply : Reply) : Type 0 where
  pub number : reply.number ≡ (host_message refusal).number
  pub place : SaysPlaceOfHost refusal reply

-- the host may refuse the event for what the reply says
pub record IsEventRefused (old : Option HostContents) (event : HostEvent) (reply : Reply) : Type 0 where
  pub refusal : HostRefusal
  pub answers : GivesAnswer old event (Refused (faults.Refused refusal)) old
  pub says : SaysHostRefusal refusal reply

-- ---- turns and ends

-- how a run stands, as a number
abbrev pub run_number : Status → ℕ
run_number runs.Running = 0
run_number runs.Finished = 1
run_number (runs.Threw exception) = 2
run_number runs.Deep = 3
run_number runs.NoMemory = 4

-- the exception that a run threw, and 0 where it threw none
abbrev pub thrown_number : Status → ℕ
thrown_number runs.Running = 0
thrown_number runs.Finished = 0
thrown_number (runs.Threw exception) = exception
thrown_number runs.Deep = 0
thrown_number runs.NoMemory = 0

-- a session takes at most this number of steps, and the reply says how many it took and the status of its run
pub record TakesTurn (old : Option HostContents) (id steps : ℕ) (reply : Reply) (new : Option HostContents) : Type 0 where
  pub status : Status
  pub answers : GivesAnswer old (Turn id steps) (Turned reply.taken status) new
  pub run : reply.run ≡ run_number status
  pub thrown : reply.thrown ≡ thrown_number status

-- what a reply says of an answer without pairs, or that there was none since there is no host
abbrev pub Says : Option HostAnswer → Reply → Type 0
Says None reply = reply.status ≡ NO_HOST
Says (Some (Turned taken status)) reply =
    (reply.status ≡ DONE) × (reply.taken ≡ taken) × (reply.run ≡ run_number status) × (reply.thrown ≡ thrown_number status)
Says (Some Closed) reply = reply.status ≡ DONE
Says (Some (Refused (faults.Refused refusal))) reply = (reply.status ≡ REFUSED) × SaysHostRefusal refusal reply
Says (Some (Refused faults.NoMemory)) reply = reply.status ≡ NO_MEMORY
Says (Some (Opened id)) reply = ⊥
Says (Some (Viewed pairs)) reply = ⊥

-- ---- views

-- a pair as C has it
abbrev pub shown_of : Pair → ShownPair
shown_of pair = record { channel = pair.channel; number = pair.number }

-- the pairs that a principal sees of a session stand at the head of the buffer
pub record PutsView (old : Option HostContents) (id principal : ℕ) (said : ℕ) (before after : List ShownPair) : Type 0 where
  pub pairs : List Pair
  pub answers : GivesAnswer old (View id principal) (Viewed pairs) old
  pub put : IsPut (map shown_of pairs) said before after

-- the buffer is too short for them, and how many they are was said
pub record NeedsView (old : Option HostContents) (id principal : ℕ) (said : ℕ) (before : List ShownPair) : Type 0 where
  pub pairs : List Pair
  pub answers : GivesAnswer old (View id principal) (Viewed pairs) old
  pub too_short : IsTooShort (map shown_of pairs) said before

-- ---- all that a session has sent

-- what is asked of a handle that may hold no host: the pairs of the session of an id, if it is open
abbrev pub AskedSent : (old : Option HostRuns) → (id : ℕ) → Option HostAnswer → (new : Option HostRuns) → Type 0
AskedSent (Some old) id (Some (Viewed pairs)) (Some new) = HasSent (host_of old) id pairs × (host_of new ≡ host_of old)
AskedSent (Some old) id (Some (Refused (faults.Refused refusal))) (Some new) =
    (refusal ≡ UnknownId) × IsNotOpen (host_of old) id × (host_of new ≡ host_of old)
AskedSent (Some old) id (Some (Refused faults.NoMemory)) (Some new) = host_of new ≡ host_of old
AskedSent None id None None = Unit {0}
AskedSent old id answer new = ⊥

-- the pairs that a session has sent stand at the head of the buffer
pub record PutsSent (old : Option HostContents) (id : ℕ) (said : ℕ) (before after : List ShownPair) : Type 0 where
  pub host : HostContents
  pub held : old ≡ Some host
  pub pairs : List Pair
  pub sent : HasSent host id pairs
  pub put : IsPut (map shown_of pairs) said before after

-- the buffer is too short for them, and how many they are was said
pub record NeedsSent (old : Option HostContents) (id : ℕ) (said : ℕ) (before : List ShownPair) : Type 0 where
  pub host : HostContents
  pub held : old ≡ Some host
  pub pairs : List Pair
  pub sent : HasSent host id pairs
  pub too_short : IsTooShort (map shown_of pairs) said before

-- no session of the id is open, and the reply says so
pub record IsUnknownSession (old : Option HostContents) (id : ℕ) (reply : Reply) : Type 0 where
  pub host : HostContents
  pub held : old ≡ Some host
  pub not_open : IsNotOpen host id
  pub says : SaysHostRefusal UnknownId reply
