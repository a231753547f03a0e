-- What a command line may ask for, and how that is written plainly.
-- Source: our own.
use Rattle.std.specs.Prelude.{◌≡◌, ◌≤◌, ◌++◌, ℕ, false, List, [], ◌∷◌, Option, Some, None, IfSome, Result, String, codes, drop, option_map, unwrap_or}
use Rattle.std.specs.List.{list_any}
use Rattle.std.specs.Fmt.{decimal}
use Rattle.std.specs.String.{string_bytes}
use Rattle.std.specs.declared.alloc.Global.{Global}
use Rattle.std.specs.Str.Parse.{starts_with_minus}
use Rattle.command_line.specs.declared.request.TheConstants.{MAX_STEPS, DEFAULT_STEPS}
use Rattle.clap.specs.Words.{Text}
use Rattle.command_line.specs.declared.request.Task.{Task}
use Rattle.command_line.specs.declared.request.TaskRefusal.{TaskRefusal}
use Rattle.common.specs.Answers.{Answers}
use Rattle.common.specs.declared.fault.OrNoMemory.{OrNoMemory}
use Rattle.command_line.specs.declared.request.Task.TheVariants.{Check, Build, Run, Explain, List as ListModule}

-- a task in plain values; a hierarchy, an observer and a number of steps may be left out
pub data Request : Type 0 where
  to_check : Text → Text → Request
  to_build : Text → Text → Text → Request
  to_run : Text → Text → Option Text → Option Text → Option ℕ → Request
  to_list : Text → Request
  to_explain : Text → Text → Request

-- `--under HIER`, or nothing
abbrev pub under_words : Option Text → List Text
under_words None = []
under_words (Some path) = codes "--under" ∷ path ∷ []

-- `--observer NAME`, or nothing
abbrev pub observer_words : Option Text → List Text
observer_words None = []
observer_words (Some name) = codes "--observer" ∷ name ∷ []

-- `--steps N`, or nothing
abbrev pub steps_words : Option ℕ → List Text
steps_words None = []
steps_words (Some steps) = codes "--steps" ∷ decimal steps ∷ []

-- the words of a request, which follow the program's name
abbrev pub spelled : Request → List Text
spelled (to_check hierarchy source) = codes "check" ∷ hierarchy ∷ source ∷ []
spelled (to_build hierarchy source out) = codes "build" ∷ hierarchy ∷ source ∷ out ∷ []
spelled (to_run file world under observer steps) =
    codes "run" ∷ file ∷ world ∷ (under_words under ++ (observer_words observer ++ steps_words steps))
spelled (to_list file) = codes "list" ∷ file ∷ []
spelled (to_explain hierarchy source) = codes "explain" ∷ hierarchy ∷ source ∷ []

-- the word does not look like an option
abbrev pub IsNoOption : Text → Type 0
IsNoOption word = starts_with_minus word ≡ false

-- each name is plain, and the number of steps is in the range
abbrev pub IsPlainRequest : Request → Type 0
IsPlainRequest (to_check hierarchy source) = IsNoOption hierarchy × IsNoOption source
IsPlainRequest (to_build hierarchy source out) = IsNoOption hierarchy × IsNoOption source × IsNoOption out
IsPlainRequest (to_run file world under observer steps) =
    IsNoOption file × IsNoOption world × IfSome under IsNoOption × IfSome observer IsNoOption
    × IfSome steps (λ n. n ≤ MAX_STEPS)
IsPlainRequest (to_list file) = IsNoOption file
IsPlainRequest (to_explain hierarchy source) = IsNoOption hierarchy × IsNoOption source

-- the task is the one that is asked for, with just these names; a run takes a million steps where
-- no number is given
pub data Grants (request : Request) (task : Task) : Type 0 where
  check : (hierarchy source : String Global)
      → request ≡ to_check (string_bytes hierarchy) (string_bytes source)
      → task ≡ Check hierarchy source → Grants request task
  build : (hierarchy source out : String Global)
      → request ≡ to_build (string_bytes hierarchy) (string_bytes source) (string_bytes out)
      → task ≡ Build hierarchy source out → Grants request task
  run : (file world : String Global) (under observer : Option (String Global)) (steps : Option ℕ)
      → request
      ≡ to_run (string_bytes file) (string_bytes world) (option_map string_bytes under) (option_map string_bytes observer) steps
      → task ≡ Run file world under observer (unwrap_or steps DEFAULT_STEPS) → Grants request task
  list : (file : String Global) → request ≡ to_list (string_bytes file)
      → task ≡ ListModule file → Grants request task
  explain : (hierarchy source : String Global)
      → request ≡ to_explain (string_bytes hierarchy) (string_bytes source)
      → task ≡ Explain hierarchy source → Grants request task

-- where the words are the program's name and a request that is written plainly, its task is
-- answered, or out of memory
abbrev pub GrantsPlainRequests : List Text → Result Task (OrNoMemory TaskRefusal) → Type 0
GrantsPlainRequests words answer =
    (program : Text) (request : Request) → IsPlainRequest request
    → words ≡ program ∷ spelled request
    → Answers (Grants request) (λ _. ⊥) answer

-- no word after the program's name looks like an option
abbrev pub HasNoOption : List Text → Type 0
HasNoOption words = list_any starts_with_minus (drop 1 words) ≡ false

-- the words are the program's name and the spelling of a request, which the task grants
abbrev pub IsSpelling : List Text → Task → Type 0
IsSpelling words task =
    (program : Text) × (request : Request) × (words ≡ program ∷ spelled request) × Grants request task
