-- What the bytes that two texts are compiled to promise: of every session of them that any host opens, and of every run of them
-- that the program shows. Each joins what is said of compiling with what is said of hosts and of the program.
-- Source: our own; isolation as noninterference after Volpano, Smith and Irvine 1996.
use Rattle.std.specs.Prelude.{◌≡◌, ℕ, ◌<◌, ◌≤◌, ◌⊎◌, List, [], length, Bool, Option, Some, None, IfSome, String, option_map}
use Rattle.std.specs.String.{string_bytes}
use Rattle.std.specs.declared.alloc.Global.{Global}
use Rattle.std.specs.declared.vec.Vec.{Vec}
use Rattle.principals.specs.ActsFor.{PrincipalHierarchy, HasName, IsHierarchy}
use Rattle.labels.specs.Carried.{label_under}
use Rattle.common.specs.declared.sent.Pair.{Pair}
use Rattle.labels.specs.Sent.{IsPrefix, pairs_for, OneIsPrefix}
use Rattle.resolved.specs.Labelled.{channel_label}
use Rattle.resolved.specs.Meaning.{frame_limit, run_within, sent_by}
use Rattle.resolved.specs.Program.{Program}
use Rattle.resolved.specs.SourceState.{World}
use Rattle.modules.specs.Contents.{ModuleContents}
use Rattle.modules.specs.Isolated.{AgreeOnInputs}
use Rattle.modules.specs.Machine.{Ending, sent_after}
use Rattle.channels.specs.World.{InputNumbers, input_names, numbers_of_channel}
use Rattle.verifier.specs.Safety.{IsNeverStuck}
use Rattle.machine.specs.Run.{names_of}
use Rattle.lowering.specs.SameMeaning.{ending_of}
use Rattle.compiler.specs.Compiled.{IsCompiled}
use Rattle.host.specs.Laws as sessions
use Rattle.host.specs.Meaning.{CanOpen, IsContained, hierarchy_under}
use Rattle.command_line.specs.declared.request.Task.TheVariants.{Run}
use Rattle.flowc.specs.Compiled.{bytes_at, bytes_of, text_at}
use Rattle.flowc.specs.Stdout.{CanRun, IsShown, IsViewedUnder, ShowsRun, numbers_in, text_shown}
use Rattle.flowc.specs.Lines.{end_line}
use Rattle.flowc.specs.Messages.{IsEndLine, IsTaskLine, IsFailureLine}

-- what a principal sees of pairs that a program sent, by the program's own hierarchy and labels, or under a larger hierarchy, to
-- which the principals of the labels are carried over by name
abbrev pub seen_under : Program → (under : Option PrincipalHierarchy) → (p : ℕ) → List Pair → List Pair
seen_under program None p sent = pairs_for program.hierarchy (channel_label program) p sent
seen_under program (Some larger) p sent =
    pairs_for larger (λ channel. label_under program.hierarchy larger (channel_label program channel)) p sent

-- what a principal sees so of what a program sends on a world with an amount of fuel
abbrev pub program_view : Program → (under : Option PrincipalHierarchy) → (p : ℕ) → World → (fuel : ℕ) → List Pair
program_view program under p world fuel = seen_under program under p (sent_by program world fuel)

-- the program that two compiled texts stand for, and the module that their bytes spell
abbrev pub program_in : {hierarchy source code : List ℕ} → IsCompiled hierarchy source code → Program
program_in compiled = compiled.program

abbrev pub module_in : {hierarchy source code : List ℕ} → IsCompiled hierarchy source code → ModuleContents
module_in compiled = compiled.code_of.contents

-- the hierarchy whose principals view a session of the bytes: the one that is given, or the program's own
abbrev pub hierarchy_in : {hierarchy source code : List ℕ} → IsCompiled hierarchy source code → (under : Option PrincipalHierarchy) → PrincipalHierarchy
hierarchy_in compiled under = hierarchy_under under (module_in compiled)

-- ---- sessions

-- whatever a session of the bytes shows to a principal is a prefix of what it sees of the source, with as much fuel as the session
-- has taken steps, by the answers to its own turns
abbrev pub SessionsShowNoMore : Type 0
SessionsShowNoMore =
    (hierarchy source code : List ℕ) (compiled : IsCompiled hierarchy source code) (world : List InputNumbers)
    (under : Option PrincipalHierarchy) (p : ℕ) (pairs : List Pair) (shows : sessions.Shows code world under p pairs)
    → IsPrefix pairs (program_view (program_in compiled) under p
    (numbers_of_channel (module_in compiled) world) (sessions.steps_of shows))

-- before its view a session has taken this number of steps, or has answered that its run has ended
abbrev pub HasRun : {code : List ℕ} {world : List InputNumbers} {under : Option PrincipalHierarchy} {p : ℕ} {pairs : List Pair}
    → sessions.Shows code world under p pairs → (steps : ℕ) → Type 0
HasRun shows steps = (steps ≤ sessions.steps_of shows) ⊎ ((ending : Ending) × sessions.ReportsEnd shows ending)

-- whatever a principal sees of a program, with any amount of fuel, is a prefix of what every session of the bytes shows to it that
-- has taken enough steps, or has answered that its run has ended
abbrev pub ShowNoLess : Program → ModuleContents → (code : List ℕ) → Type 0
ShowNoLess program m code =
    (world : List InputNumbers) (under : Option PrincipalHierarchy) (p fuel : ℕ)
    → (enough : ℕ) × ((pairs : List Pair) (shows : sessions.Shows code world under p pairs) → HasRun shows enough
    → IsPrefix (program_view program under p (numbers_of_channel m world) fuel) pairs)

abbrev pub SessionsShowNoLess : Type 0
SessionsShowNoLess =
    (hierarchy source code : List ℕ) (compiled : IsCompiled hierarchy source code)
    → ShowNoLess (program_in compiled) (module_in compiled) code

-- the relation between events and answers is not empty: on each world for the inputs of the bytes, and under each hierarchy that
-- contains theirs, it allows some session that shows a principal all that it sees of the source with any amount of fuel. A host that is always out of memory keeps it too
abbrev pub SomeSessionsShowAll : Type 0
SomeSessionsShowAll =
    (hierarchy source code : List ℕ) (compiled : IsCompiled hierarchy source code) (world : List InputNumbers)
    (under : Option PrincipalHierarchy) (p fuel : ℕ)
    → names_of world ≡ input_names (module_in compiled) → IsContained (module_in compiled) under
    → p < length (hierarchy_in compiled under).names
    → (pairs : List Pair) × sessions.Shows code world under p pairs
    × IsPrefix (program_view (program_in compiled) under p (numbers_of_channel (module_in compiled) world) fuel)
    pairs

-- a module that never sends anything shows less: it does not meet `ShowNoLess` for a program of which some principal sees something
-- on a world on which its bytes can be opened
abbrev pub SilentModulesShowLess : Type 0
SilentModulesShowLess =
    (program : Program) (m : ModuleContents) (code : List ℕ) (world : List InputNumbers) (under : Option PrincipalHierarchy) (p fuel : ℕ)
    → CanOpen code world under m → IsNeverStuck m → p < length (hierarchy_under under m).names
    → ((steps : ℕ) → sent_after m (numbers_of_channel m world) steps ≡ [])
    → ¬ (program_view program under p (numbers_of_channel m world) fuel ≡ []) → ¬ ShowNoLess program m code

-- where a session has answered that its run has ended, the source ends so with as much fuel as the session has taken steps, and
-- the session shows just what the principal sees of the source
abbrev pub SessionsEndAsTheSource : Type 0
SessionsEndAsTheSource =
    (hierarchy source code : List ℕ) (compiled : IsCompiled hierarchy source code) (world : List InputNumbers)
    (under : Option PrincipalHierarchy) (p : ℕ) (pairs : List Pair)
    (shows : sessions.Shows code world under p pairs) (ending : Ending) → sessions.ReportsEnd shows ending
    → let numbers = numbers_of_channel (module_in compiled) world in
    let steps = sessions.steps_of shows in
    (ending_of (run_within frame_limit (program_in compiled) numbers steps) ≡ Some ending)
    × (pairs ≡ program_view (program_in compiled) under p numbers steps)

-- isolation: two sessions of the bytes, opened by any hosts among any events, both under their own hierarchy or both under one that
-- contains it, on worlds that agree there for a principal, show it lists of which one is a prefix of the other
abbrev pub CompiledSessionsAreIsolated : Type 0
CompiledSessionsAreIsolated =
    (hierarchy source code : List ℕ) (compiled : IsCompiled hierarchy source code) (under : Option PrincipalHierarchy)
    → IfSome under IsHierarchy → (p : ℕ) (first second : List InputNumbers)
    → AgreeOnInputs (hierarchy_in compiled under) (module_in compiled) p (numbers_of_channel (module_in compiled) first)
    (numbers_of_channel (module_in compiled) second)
    → (pairs others : List Pair) → sessions.Shows code first under p pairs → sessions.Shows code second under p others
    → OneIsPrefix pairs others

-- ---- the program

-- the text that a run shows on standard output
abbrev pub text_of : {code world : List ℕ} {under observer : Option (List ℕ)} {steps status : ℕ} {old new : Option (List ℕ)}
    → ShowsRun code world under observer steps status old new → List ℕ
text_of {code} {world} run = text_shown run.hierarchy run.program world run.principal run.taken

-- every run that is shown to an observer has the status 0, and its text shows nothing else than the run
abbrev pub RunsShowThemselves : Type 0
RunsShowThemselves =
    (code world name : List ℕ) (under : Option (List ℕ)) (steps status : ℕ) (old new : Option (List ℕ))
    → (run : ShowsRun code world under (Some name) steps status old new)
    → (status ≡ 0) × IsShown code world under (Some name) steps (text_of run)

-- isolation: where bytes are run twice for one observer, both under their own hierarchy or both under that of a text, with any bounds
-- on the steps, on texts of worlds that agree there for the observer, one of the two texts that went out is a prefix of the other,
-- also where a stream failed
abbrev pub RunsAreIsolated : Type 0
RunsAreIsolated =
    (hierarchy source code : List ℕ) (compiled : IsCompiled hierarchy source code) (under : Option (List ℕ)) (name first second : List ℕ)
    → ((h : PrincipalHierarchy) (p : ℕ) → IsViewedUnder (module_in compiled) under h → HasName h p name
    → AgreeOnInputs h (module_in compiled) p (numbers_in (module_in compiled) first) (numbers_in (module_in compiled) second))
    → (steps more : ℕ) (out other : List ℕ)
    → IsShown code first under (Some name) steps out → IsShown code second under (Some name) more other
    → OneIsPrefix out other

-- the line of a run without an observer says how the source ends, by the source's own names of exceptions: where the run has ended,
-- the source ends so with as much fuel as the run has taken steps
abbrev pub RunsEndAsTheSource : Type 0
RunsEndAsTheSource =
    (hierarchy source code : List ℕ) (compiled : IsCompiled hierarchy source code) (text : List ℕ) (under : Option (List ℕ))
    (steps status : ℕ) (line : List ℕ) (run : IsEndLine code text under None steps status line)
    → (line ≡ end_line (program_in compiled).exceptions run.end)
    × ((ending : Ending) → sessions.ending_of run.end ≡ Some ending
    → ending_of (run_within frame_limit (program_in compiled) (numbers_in (module_in compiled) text) run.taken) ≡ Some ending)

-- on standard error a run for an observer that can be run has no line with status 0, and with another one of the two fixed lines of
-- status 3
abbrev pub StandardErrorIsFixed : Type 0
StandardErrorIsFixed =
    (file world observer : String Global) (under : Option (String Global)) (steps : ℕ) (files : List (Vec ℕ Global))
    (program : ModuleContents) (hierarchy : PrincipalHierarchy) (principal : Option ℕ)
    → CanRun (bytes_at files 0) (bytes_at files 1) (bytes_of (option_map (λ path. text_at path files 2) under))
    (Some (string_bytes observer)) program hierarchy principal
    → (status : ℕ) (out_failed : Bool) (line : List ℕ)
    → IsTaskLine (Run file world under (Some observer) steps) files status out_failed line
    → ((status ≡ 0) × (line ≡ [])) ⊎ IsFailureLine status out_failed line
