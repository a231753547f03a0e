-- The meaning of a host: how it may answer each event and what it then is. A relation, since memory may run out, and since
-- of several refusals of one module any may be reported that the verifier may report.
-- Source: our own.
use Rattle.std.specs.Prelude.{◌≡◌, ◌≢◌, ℕ, ◌+◌, ◌<◌, ◌≤◌, ◌^◌, ◌==◌, not, if◌then◌else◌, List, [], ◌∷◌, length, filter, Option, Some, None, IfSome}
use Rattle.principals.specs.ActsFor.{PrincipalHierarchy, ContainsHierarchy}
use Rattle.common.specs.declared.sent.Pair.{Pair}
use Rattle.modules.specs.Contents.{ModuleContents}
use Rattle.modules.specs.ByteFormat.{Spells}
use Rattle.modules.specs.Format.{module_file}
use Rattle.modules.specs.Machine.{Machine, after_steps, exec, machine_code, sent_of}
use Rattle.channels.specs.World.{InputNumbers, input_names, numbers_of_channel}
use Rattle.machine.specs.Run.{ReportsStatus, WasRunning, names_of}
use Rattle.machine.specs.declared.status.Status.{Status}
use Rattle.machine.specs.declared.fault.NewRefusal.TheVariants.{UnknownChannel}
use Rattle.verifier.specs.Refusals.{IsNotRefused}
use Rattle.verifier.specs.Loaded.{CannotLoad}
use Rattle.modules.specs.Isolated.{module_view}
use Rattle.common.specs.declared.fault.OrNoMemory.{OrNoMemory}
use Rattle.common.specs.declared.fault.OrNoMemory.TheVariants as faults
use Rattle.host.specs.declared.fault.HostRefusal.{HostRefusal}
use Rattle.host.specs.declared.fault.HostRefusal.TheVariants.{Full, UnknownId, UnknownPrincipal, Load, New, NotContained}

-- ---- hosts

-- an open session: its id, what its module contains, the hierarchy whose principals view it, and the machine of its run, the
-- run's end included
pub record SessionContents : Type 0 where
  pub id : ℕ
  pub program : ModuleContents
  pub hierarchy : PrincipalHierarchy
  pub machine : Machine

-- a host: the least id that was never given, and the open sessions, the newest first
pub record HostContents : Type 0 where
  pub next : ℕ
  pub sessions : List SessionContents

-- the open session of an id
abbrev pub session_of : ℕ → List SessionContents → Option SessionContents
session_of id [] = None
session_of id (session ∷ sessions) = if session.id == id then Some session else session_of id sessions

abbrev pub IsOpen : HostContents → ℕ → SessionContents → Type 0
IsOpen host id session = session_of id host.sessions ≡ Some session

abbrev pub IsNotOpen : HostContents → ℕ → Type 0
IsNotOpen host id = session_of id host.sessions ≡ None

-- sessions with another machine for the one of an id
abbrev pub with_machine : ℕ → Machine → List SessionContents → List SessionContents
with_machine id machine [] = []
with_machine id machine (session ∷ sessions) =
    if session.id == id
    then record session { machine = machine } ∷ sessions
    else session ∷ with_machine id machine sessions

-- sessions without that of an id
abbrev pub without : ℕ → List SessionContents → List SessionContents
without id sessions = filter (λ session. not (session.id == id)) sessions

-- there is room for one more session, and an id of 64 bits
pub record HasRoom (limit : ℕ) (host : HostContents) : Type 0 where
  pub room_left : length host.sessions < limit
  pub id_left : host.next < 2 ^ 64

-- ---- events and answers

-- what a host is asked: to open a session of bytes on a world, under a hierarchy or under the module's own, to let the session of
-- an id take at most a number of steps, to show what a principal sees of it, or to close it
pub data HostEvent : Type 0 where
  Open : List ℕ → List InputNumbers → Option PrincipalHierarchy → HostEvent
  Turn : ℕ → ℕ → HostEvent
  View : ℕ → ℕ → HostEvent
  Close : ℕ → HostEvent

pub data HostAnswer : Type 0 where
  Opened : ℕ → HostAnswer
  Turned : ℕ → Status → HostAnswer
  Viewed : List Pair → HostAnswer
  Closed : HostAnswer
  Refused : OrNoMemory HostRefusal → HostAnswer

-- a fault is a refusal of which P holds, or out of memory where memory is asked for
abbrev pub ReportsFault : (Asks : Type 0) → (HostRefusal → Type 0) → OrNoMemory HostRefusal → Type 0
ReportsFault Asks P faults.NoMemory = Asks
ReportsFault Asks P (faults.Refused refusal) = P refusal

-- ---- opening

-- the hierarchy of a session of a module: the one that is given, or else the module's own
abbrev pub hierarchy_under : Option PrincipalHierarchy → ModuleContents → PrincipalHierarchy
hierarchy_under None m = m.hierarchy
hierarchy_under (Some larger) m = larger

-- a hierarchy that is given contains the module's
abbrev pub IsContained : ModuleContents → Option PrincipalHierarchy → Type 0
IsContained m under = IfSome under (λ larger. ContainsHierarchy larger m.hierarchy)

-- bytes can be opened on a world as this module: they spell it, its code is not refused, the world is for its inputs, and a hierarchy
-- that is given contains its own
pub record CanOpen (bytes : List ℕ) (world : List InputNumbers) (under : Option PrincipalHierarchy) (m : ModuleContents) : Type 0 where
  pub spelled : Spells module_file m bytes
  pub not_refused : IsNotRefused m
  pub named : names_of world ≡ input_names m
  pub contained : IsContained m under

-- a module on a world before its first step
abbrev pub first_machine : ModuleContents → List InputNumbers → Machine
first_machine m world = after_steps m (numbers_of_channel m world) 0

-- a session before its first step
abbrev pub first_session : (id : ℕ) → ModuleContents → List InputNumbers → Option PrincipalHierarchy → SessionContents
first_session id m world under =
    record { id = id; program = m; hierarchy = hierarchy_under under m; machine = first_machine m world }

-- a host with one more session, of the next id
abbrev pub with_opened : HostContents → ModuleContents → List InputNumbers → Option PrincipalHierarchy → HostContents
with_opened host m world under = record {
  next = host.next + 1;
  sessions = first_session host.next m world under ∷ host.sessions;
}

-- why bytes are not opened on a world where there is room. The first of these in this order that applies is reported: a refusal
-- of the bytes, a refusal of the code, a world for other inputs, a hierarchy that does not contain the module's
abbrev pub CannotOpen : List ℕ → List InputNumbers → Option PrincipalHierarchy → HostRefusal → Type 0
CannotOpen bytes world under (Load refusal) = CannotLoad bytes refusal
CannotOpen bytes world under (New UnknownChannel) =
    (m : ModuleContents) × Spells module_file m bytes × IsNotRefused m × (names_of world ≢ input_names m)
CannotOpen bytes world under NotContained =
    (m : ModuleContents) × Spells module_file m bytes × IsNotRefused m × (names_of world ≡ input_names m) × ¬ IsContained m under
CannotOpen bytes world under Full = ⊥
CannotOpen bytes world under UnknownId = ⊥
CannotOpen bytes world under UnknownPrincipal = ⊥

-- a full host is reported before all else
abbrev pub OpenRefused : ℕ → HostContents → List ℕ → List InputNumbers → Option PrincipalHierarchy → HostRefusal → Type 0
OpenRefused limit host bytes world under Full = HasRoom limit host → ⊥
OpenRefused limit host bytes world under refusal = HasRoom limit host × CannotOpen bytes world under refusal

-- ---- turns and views

-- why an event that names a session alone is refused
abbrev pub IdRefused : HostContents → ℕ → HostRefusal → Type 0
IdRefused host id refusal = (refusal ≡ UnknownId) × IsNotOpen host id

-- a session that may take at most n steps takes this number of them, and reports this status of its run
pub record Takes (session : SessionContents) (n taken : ℕ) (status : Status) (after : Machine) : Type 0 where
  pub within : taken ≤ n
  pub running : WasRunning (machine_code session.program) taken session.machine
  pub machine : after ≡ exec (machine_code session.program) taken session.machine
  pub reported : ReportsStatus (machine_code session.program) n taken status after

-- a number is that of a principal of a session's hierarchy
abbrev pub IsPrincipal : SessionContents → ℕ → Type 0
IsPrincipal session p = p < length session.hierarchy.names

-- what a principal sees of a session
abbrev pub session_view : SessionContents → ℕ → List Pair
session_view session p = module_view session.hierarchy session.program p (sent_of session.machine)

-- a principal of a session's hierarchy can be shown what it sees
abbrev pub CanView : HostContents → ℕ → ℕ → Type 0
CanView host id p = (session : SessionContents) × IsOpen host id session × IsPrincipal session p

-- the session of an id is open, and has sent these pairs
abbrev pub HasSent : HostContents → (id : ℕ) → List Pair → Type 0
HasSent host id sent = (session : SessionContents) × IsOpen host id session × (sent ≡ sent_of session.machine)

-- why a view is refused
abbrev pub ViewRefused : HostContents → ℕ → ℕ → HostRefusal → Type 0
ViewRefused host id p UnknownId = IsNotOpen host id
ViewRefused host id p UnknownPrincipal = (session : SessionContents) × IsOpen host id session × (IsPrincipal session p → ⊥)
ViewRefused host id p Full = ⊥
ViewRefused host id p (Load refusal) = ⊥
ViewRefused host id p (New refusal) = ⊥
ViewRefused host id p NotContained = ⊥

-- ---- the meaning

-- what a host with room for a number of sessions may answer an event, and what it then is
abbrev pub MayAnswer : (limit : ℕ) (old : HostContents) → HostEvent → HostAnswer → (new : HostContents) → Type 0
-- a session of the next id is opened
MayAnswer limit old (Open bytes world under) (Opened id) new =
    HasRoom limit old × (id ≡ old.next)
    × ((m : ModuleContents) × CanOpen bytes world under m × (new ≡ with_opened old m world under))
MayAnswer limit old (Open bytes world under) (Refused fault) new =
    ReportsFault (HasRoom limit old) (OpenRefused limit old bytes world under) fault × (new ≡ old)
-- the session of the id, and no other, goes on by the steps that are reported
MayAnswer limit old (Turn id n) (Turned taken status) new =
    (session : SessionContents) × IsOpen old id session
    × ((after : Machine) × Takes session n taken status after
    × (new ≡ record old { sessions = with_machine id after old.sessions }))
MayAnswer limit old (Turn id n) (Refused fault) new = ReportsFault ⊥ (IdRefused old id) fault × (new ≡ old)
-- what the principal sees, and nothing changes
MayAnswer limit old (View id p) (Viewed pairs) new =
    (session : SessionContents) × IsOpen old id session × IsPrincipal session p × (pairs ≡ session_view session p) × (new ≡ old)
MayAnswer limit old (View id p) (Refused fault) new =
    ReportsFault (CanView old id p) (ViewRefused old id p) fault × (new ≡ old)
-- the session is there no more
MayAnswer limit old (Close id) Closed new =
    ((session : SessionContents) × IsOpen old id session) × (new ≡ record old { sessions = without id old.sessions })
MayAnswer limit old (Close id) (Refused fault) new = ReportsFault ⊥ (IdRefused old id) fault × (new ≡ old)
-- no other answer is given
MayAnswer limit old event answer new = ⊥

-- the same for a list of events and the list of their answers, one after another
abbrev pub Answered : (limit : ℕ) (old : HostContents) → List HostEvent → List HostAnswer → (new : HostContents) → Type 0
Answered limit old [] [] new = new ≡ old
Answered limit old [] (answer ∷ answers) new = ⊥
Answered limit old (event ∷ events) [] new = ⊥
Answered limit old (event ∷ events) (answer ∷ answers) new =
    (next : HostContents) × MayAnswer limit old event answer next × Answered limit next events answers new
