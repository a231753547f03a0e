-- What a task shows on standard output, and with which status it ends.
-- Source: our own.
use Rattle.std.specs.Prelude.{◌≡◌, ◌≤◌, ◌⊎◌, ℕ, ℤ, List, Option, Some, None, option_map, codes, IsUtf8}
use Rattle.std.specs.Io.KnownBytes.{Appends}
use Rattle.std.specs.String.{string_bytes}
use Rattle.std.specs.declared.alloc.Global.{Global}
use Rattle.std.specs.declared.vec.Vec.{Vec}
use Rattle.principals.specs.ActsFor.{PrincipalHierarchy, ContainsHierarchy}
use Rattle.acceptance.specs.Accepted.{HasHierarchy}
use Rattle.labels.specs.Sent.{IsPrefix}
use Rattle.modules.specs.Contents.{ModuleContents}
use Rattle.modules.specs.ByteFormat.{Spells}
use Rattle.modules.specs.Format.{module_file}
use Rattle.modules.specs.Machine.{after_steps, machine_code, sent_after}
use Rattle.channels.specs.Sink.{AppendsPrefix}
use Rattle.channels.specs.World.{input_names, numbers_of_channel}
use Rattle.channels.specs.WorldText.{IsWorldText, lines_of, world_of}
use Rattle.listing.specs.Listing.{listing_text}
use Rattle.verifier.specs.Refusals.{IsNotRefused}
use Rattle.machine.specs.Run.{ReportsStatus}
use Rattle.machine.specs.declared.status.Status.{Status}
use Rattle.command_line.specs.declared.request.Task.{Task}
use Rattle.command_line.specs.declared.request.Task.TheVariants.{Check, Build, Run, Explain, List as ListModule}
use Rattle.flowc.specs.Compiled.{bytes_at, bytes_of, text_at}
use Rattle.flowc.specs.Explained.{Explains, ExplainsRefusal, ExplainsSome}
use Rattle.flowc.specs.Task.{reported_status}
use Rattle.flowc.specs.View.{IsObserver, observer_view, view_text}

-- the numbers that the text of a world has for each channel of a module
abbrev pub numbers_in : ModuleContents → List ℕ → ℕ → List ℤ
numbers_in program text = numbers_of_channel program (world_of (input_names program) (lines_of text))

-- the text of what is shown under a hierarchy of a run on the world of a text after a number of steps
abbrev pub text_shown : PrincipalHierarchy → ModuleContents → (world : List ℕ) → (principal : Option ℕ) → (taken : ℕ) → List ℕ
text_shown hierarchy program world principal taken =
    view_text program (observer_view hierarchy program principal (sent_after program (numbers_in program world) taken))

-- the hierarchy whose principals view a run: the module's own, or that of a text, which contains the module's
abbrev pub IsViewedUnder : ModuleContents → (under : Option (List ℕ)) → PrincipalHierarchy → Type 0
IsViewedUnder program None hierarchy = hierarchy ≡ program.hierarchy
IsViewedUnder program (Some text) hierarchy = HasHierarchy text hierarchy × ContainsHierarchy hierarchy program.hierarchy

-- what can be run for an observer: the bytes of a module that is not refused, a world for it, a hierarchy that contains its own where
-- one is named, and a principal of the hierarchy
pub record CanRun (code text : List ℕ) (under observer : Option (List ℕ)) (program : ModuleContents) (hierarchy : PrincipalHierarchy)
    (principal : Option ℕ) : Type 0 where
  pub spelled : Spells module_file program code
  pub not_refused : IsNotRefused program
  pub encoded : IsUtf8 text
  pub right : IsWorldText (input_names program) (lines_of text)
  pub viewed : IsViewedUnder program under hierarchy
  pub observed : IsObserver hierarchy observer principal

-- nothing can be run
abbrev pub CannotRun : (code text : List ℕ) (under observer : Option (List ℕ)) → Type 0
CannotRun code text under observer =
    (program : ModuleContents) (hierarchy : PrincipalHierarchy) (principal : Option ℕ)
    → ¬ CanRun code text under observer program hierarchy principal

-- a run was shown: at most this number of steps was taken, and what was written is the view that the observer has of what was sent by
-- then; the status reports the end, but not to an observer
pub record ShowsRun (code text : List ℕ) (under observer : Option (List ℕ)) (steps status : ℕ) (old new : Option (List ℕ)) : Type 0 where
  pub program : ModuleContents
  pub hierarchy : PrincipalHierarchy
  pub principal : Option ℕ
  pub taken : ℕ
  pub can_run : CanRun code text under observer program hierarchy principal
  pub within : taken ≤ steps
  pub view : Appends old new (text_shown hierarchy program text principal taken)
  pub end : Status
  pub ended : ReportsStatus (machine_code program) steps taken end (after_steps program (numbers_in program text) taken)
  pub reported : status ≡ reported_status principal end

-- a text shows nothing else than a run on the world: it is a prefix of what is shown of the run after at most this number of steps
pub record IsShown (code text : List ℕ) (under observer : Option (List ℕ)) (steps : ℕ) (out : List ℕ) : Type 0 where
  pub program : ModuleContents
  pub hierarchy : PrincipalHierarchy
  pub principal : Option ℕ
  pub taken : ℕ
  pub can_run : CanRun code text under observer program hierarchy principal
  pub within : taken ≤ steps
  pub prefix : IsPrefix out (text_shown hierarchy program text principal taken)

-- where a stream failed or memory ran out, nothing was written, or a text that shows nothing else than the run
abbrev pub ShowsSome : (code text : List ℕ) (under observer : Option (List ℕ)) (steps : ℕ) (old new : Option (List ℕ)) → Type 0
ShowsSome code text under observer steps old new =
    (old ≡ new) ⊎ ((out : List ℕ) × IsShown code text under observer steps out × Appends old new out)

-- what can be listed: the bytes of a module that is not refused
pub record CanList (code : List ℕ) (program : ModuleContents) : Type 0 where
  pub spelled : Spells module_file program code
  pub not_refused : IsNotRefused program

-- nothing can be listed
abbrev pub CannotList : List ℕ → Type 0
CannotList code = (program : ModuleContents) → ¬ CanList code program

-- the module was listed
abbrev pub Lists : (code : List ℕ) → (old new : Option (List ℕ)) → Type 0
Lists code old new =
    (program : ModuleContents) × CanList code program × Appends old new (listing_text program)

-- where a stream failed or memory ran out, nothing was written, or a prefix of the listing
abbrev pub ListsSome : (code : List ℕ) → (old new : Option (List ℕ)) → Type 0
ListsSome code old new =
    (old ≡ new)
    ⊎ ((program : ModuleContents) × CanList code program
    × AppendsPrefix old new (listing_text program))

-- what a task has written to standard output when it ends with this status; nothing where what it read is refused, and no more
-- than a prefix where a stream failed or memory ran out
abbrev pub WritesStdout : Task → List (Vec ℕ Global) → ℕ → Option (List ℕ) → Option (List ℕ) → Type 0
WritesStdout (Check hierarchy source) files status old new =
    ((status ≡ 1) × (old ≡ new))
    ⊎ (((status ≡ 3) × AppendsPrefix old new (codes "ok\n")) ⊎ ((status ≡ 0) × Appends old new (codes "ok\n")))
WritesStdout (Build hierarchy source out) files status old new = old ≡ new
WritesStdout (Run file world under observer steps) files status old new =
    let code = bytes_at files 0 in
    let text = bytes_at files 1 in
    let hierarchy = bytes_of (option_map (λ path. text_at path files 2) under) in
    let name = option_map string_bytes observer in
    ((status ≡ 1) × (old ≡ new) × CannotRun code text hierarchy name)
    ⊎ (((status ≡ 3) × ShowsSome code text hierarchy name steps old new)
    ⊎ ShowsRun code text hierarchy name steps status old new)
WritesStdout (ListModule file) files status old new =
    let code = bytes_at files 0 in
    ((status ≡ 1) × (old ≡ new) × CannotList code)
    ⊎ (((status ≡ 3) × ListsSome code old new) ⊎ ((status ≡ 0) × Lists code old new))
WritesStdout (Explain hierarchy source) files status old new =
    let h = bytes_at files 0 in
    let s = bytes_at files 1 in
    ((status ≡ 1) × ExplainsRefusal h s old new)
    ⊎ (((status ≡ 3) × ExplainsSome h s old new) ⊎ ((status ≡ 0) × Explains h s old new))
