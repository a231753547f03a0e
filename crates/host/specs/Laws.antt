-- What the meaning of hosts implies, for every host and every list of events: a session is a run of its module alone on its
-- world, by as many steps as its own turns reported, and ends as they reported; one that was open before goes on so; lists of
-- events and their answers are joined; sessions of isolated bytes are isolated; no id is given twice.
-- Source: our own; noninterference after Volpano, Smith and Irvine 1996.
use Rattle.principals.specs.ActsFor.{PrincipalHierarchy}
use Rattle.labels.specs.Sent.{OneIsPrefix}
use Rattle.std.specs.Prelude.{◌≡◌, ℕ, ◌+◌, ◌<◌, ◌==◌, if◌then◌else◌, List, [], ◌∷◌, ◌++◌, slice_get, take, drop, Option, Some, None}
use Rattle.common.specs.declared.sent.Pair.{Pair}
use Rattle.modules.specs.Contents.{ModuleContents}
use Rattle.modules.specs.ByteFormat.{Spells}
use Rattle.modules.specs.Format.{module_file}
use Rattle.modules.specs.Machine.{Ending, Finished, Threw, Deep, after_steps, exec, machine_code, sent_after}
use Rattle.channels.specs.World.{InputNumbers, numbers_of_channel}
use Rattle.modules.specs.Isolated.{module_view, AgreeOnInputs, IsIsolated}
use Rattle.machine.specs.Run.{HasEnded}
use Rattle.machine.specs.declared.status.Status.{Status}
use Rattle.machine.specs.declared.status.Status.TheVariants as status
use Rattle.host.specs.Meaning.{SessionContents, HostContents, HostEvent, Open, Turn, View, Close, HostAnswer, Opened, Turned, Viewed, Closed, Refused, Answered, CanOpen, IsOpen, hierarchy_under, session_view}

-- the steps that an event's answer reports of the session of an id
abbrev pub reported_of : ℕ → HostEvent → HostAnswer → ℕ
reported_of id (Turn other n) (Turned taken status) = if other == id then taken else 0
reported_of id (Turn other n) (Opened new) = 0
reported_of id (Turn other n) (Viewed pairs) = 0
reported_of id (Turn other n) Closed = 0
reported_of id (Turn other n) (Refused fault) = 0
reported_of id (Open bytes world under) answer = 0
reported_of id (View other p) answer = 0
reported_of id (Close other) answer = 0

-- the steps that the turns of an id report in sum
abbrev pub steps_reported : ℕ → List HostEvent → List HostAnswer → ℕ
steps_reported id [] answers = 0
steps_reported id (event ∷ events) [] = 0
steps_reported id (event ∷ events) (answer ∷ answers) = reported_of id event answer + steps_reported id events answers

-- some host was asked these events and gave these answers. In one place a session of these bytes on this world is opened, under
-- this hierarchy or under the module's own, and in a later one a principal is shown these pairs of it
pub record Shows (bytes : List ℕ) (world : List InputNumbers) (under : Option PrincipalHierarchy) (p : ℕ) (pairs : List Pair) : Type 0 where
  pub limit : ℕ
  pub old : HostContents
  pub events : List HostEvent
  pub answers : List HostAnswer
  pub new : HostContents
  pub answered : Answered limit old events answers new
  pub id : ℕ
  pub opened : ℕ
  pub viewed : ℕ
  pub later : opened < viewed
  pub opens : slice_get events opened ≡ Some (Open bytes world under)
  pub opened_so : slice_get answers opened ≡ Some (Opened id)
  pub views : slice_get events viewed ≡ Some (View id p)
  pub viewed_so : slice_get answers viewed ≡ Some (Viewed pairs)

-- the steps that the session's own turns reported before it was viewed
abbrev pub steps_of : {bytes : List ℕ} {world : List InputNumbers} {under : Option PrincipalHierarchy} {p : ℕ} {pairs : List Pair}
    → Shows bytes world under p pairs → ℕ
steps_of shows =
    steps_reported shows.id (drop shows.opened (take shows.viewed shows.events)) (drop shows.opened (take shows.viewed shows.answers))

-- whatever a session is asked, and whatever events of other sessions come between: what is shown of it is what a fresh run of the
-- module that the bytes spell, alone on the world, has sent after the steps that the session's own turns reported
abbrev pub SessionsAreFreshRuns : Type 0
SessionsAreFreshRuns =
    (bytes : List ℕ) (world : List InputNumbers) (under : Option PrincipalHierarchy) (p : ℕ) (pairs : List Pair) (m : ModuleContents)
    → Spells module_file m bytes → (shows : Shows bytes world under p pairs)
    → pairs ≡ module_view (hierarchy_under under m) m p (sent_after m (numbers_of_channel m world) (steps_of shows))

-- a session is opened of bytes that can be opened on its world; so a hierarchy that is given contains their module's
abbrev pub SessionsCanBeOpened : Type 0
SessionsCanBeOpened =
    (bytes : List ℕ) (world : List InputNumbers) (under : Option PrincipalHierarchy) (p : ℕ) (pairs : List Pair)
    → Shows bytes world under p pairs → (m : ModuleContents) × CanOpen bytes world under m

-- the end that a status reports; none where the run goes on, also where it waits for memory
abbrev pub ending_of : Status → Option Ending
ending_of status.Running = None
ending_of status.Finished = Some Finished
ending_of (status.Threw exception) = Some (Threw exception)
ending_of status.Deep = Some Deep
ending_of status.NoMemory = None

-- before the view a turn of the session reported that its run has ended so
pub record ReportsEnd {bytes : List ℕ} {world : List InputNumbers} {under : Option PrincipalHierarchy} {p : ℕ} {pairs : List Pair}
    (shows : Shows bytes world under p pairs) (ending : Ending) : Type 0 where
  pub turn : ℕ
  pub steps : ℕ
  pub taken : ℕ
  pub status : Status
  pub later : shows.opened < turn
  pub before : turn < shows.viewed
  pub asks : slice_get shows.events turn ≡ Some (Turn shows.id steps)
  pub answers : slice_get shows.answers turn ≡ Some (Turned taken status)
  pub ended : ending_of status ≡ Some ending

-- what a session reports of its end is so: the fresh run has ended so after the steps that the session's own turns reported
abbrev pub SessionsEndAsReported : Type 0
SessionsEndAsReported =
    (bytes : List ℕ) (world : List InputNumbers) (under : Option PrincipalHierarchy) (p : ℕ) (pairs : List Pair) (m : ModuleContents)
    → Spells module_file m bytes → (shows : Shows bytes world under p pairs) (ending : Ending) → ReportsEnd shows ending
    → HasEnded ending (after_steps m (numbers_of_channel m world) (steps_of shows))

-- two sessions of one module, each opened from the same bytes by any host among any events, under a hierarchy under which the module
-- is isolated, on worlds that agree there for a principal: one of what the two show to the principal is a prefix of the other
abbrev pub SessionsAreIsolated : Type 0
SessionsAreIsolated =
    (bytes : List ℕ) (m : ModuleContents) (under : Option PrincipalHierarchy)
    → Spells module_file m bytes → IsIsolated (hierarchy_under under m) m
    → (p : ℕ) (first second : List InputNumbers)
    → AgreeOnInputs (hierarchy_under under m) m p (numbers_of_channel m first) (numbers_of_channel m second)
    → (pairs others : List Pair) → Shows bytes first under p pairs → Shows bytes second under p others → OneIsPrefix pairs others

-- a session that is opened among any events and is open after them stands where a fresh run of the module that the bytes spell,
-- alone on the world, stands after the steps that the session's own turns reported
abbrev pub SessionsStandAsReported : Type 0
SessionsStandAsReported =
    (bytes : List ℕ) (world : List InputNumbers) (under : Option PrincipalHierarchy) (m : ModuleContents) → Spells module_file m bytes
    → (limit : ℕ) (old : HostContents) (events : List HostEvent) (answers : List HostAnswer) (new : HostContents)
    → Answered limit old events answers new
    → (id opened : ℕ) → slice_get events opened ≡ Some (Open bytes world under) → slice_get answers opened ≡ Some (Opened id)
    → (session : SessionContents) → IsOpen new id session
    → session ≡ record {
      id = id;
      program = m;
      hierarchy = hierarchy_under under m;
      machine = after_steps m (numbers_of_channel m world) (steps_reported id (drop opened events) (drop opened answers));
    }

-- a session some steps on
abbrev pub moved_by : SessionContents → ℕ → SessionContents
moved_by session steps = record session { machine = exec (machine_code session.program) steps session.machine }

-- a session that was open before any events, under an id that was given, and is open after them: it has gone on by the steps that
-- its own turns reported, and is otherwise as it was
abbrev pub SessionsGoOn : Type 0
SessionsGoOn =
    (limit : ℕ) (old : HostContents) (events : List HostEvent) (answers : List HostAnswer) (new : HostContents)
    → Answered limit old events answers new
    → (id : ℕ) (session later : SessionContents) → id < old.next → IsOpen old id session → IsOpen new id later
    → later ≡ moved_by session (steps_reported id events answers)

-- and what is shown of it is its view after the steps that its own turns reported before
abbrev pub SessionsShowOn : Type 0
SessionsShowOn =
    (limit : ℕ) (old : HostContents) (events : List HostEvent) (answers : List HostAnswer) (new : HostContents)
    → Answered limit old events answers new
    → (id : ℕ) (session : SessionContents) → id < old.next → IsOpen old id session
    → (viewed p : ℕ) (pairs : List Pair) → slice_get events viewed ≡ Some (View id p) → slice_get answers viewed ≡ Some (Viewed pairs)
    → pairs ≡ session_view (moved_by session (steps_reported id (take viewed events) (take viewed answers))) p

-- events that are answered after others: both lists in a row are answered by both lists of answers in a row
abbrev pub TranscriptsJoin : Type 0
TranscriptsJoin =
    (limit : ℕ) (old middle new : HostContents) (events more : List HostEvent) (answers others : List HostAnswer)
    → Answered limit old events answers middle → Answered limit middle more others new
    → Answered limit old (events ++ more) (answers ++ others) new

-- and the steps that the turns of an id report add up
abbrev pub StepsAddUp : Type 0
StepsAddUp =
    (limit : ℕ) (old middle : HostContents) (events more : List HostEvent) (answers others : List HostAnswer)
    → Answered limit old events answers middle
    → (id : ℕ) → steps_reported id (events ++ more) (answers ++ others) ≡ steps_reported id events answers + steps_reported id more others

-- no id is given twice: of two sessions that a host opens, the later one has the greater id
abbrev pub IdsGoUp : Type 0
IdsGoUp =
    (limit : ℕ) (old : HostContents) (events : List HostEvent) (answers : List HostAnswer) (new : HostContents)
    → Answered limit old events answers new
    → (i j first second : ℕ) → i < j → slice_get answers i ≡ Some (Opened first) → slice_get answers j ≡ Some (Opened second)
    → first < second
