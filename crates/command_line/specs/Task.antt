-- What a task asks for, and which task the words of a command line stand for.
-- Source: our own.
use Rattle.std.specs.Prelude.{◌≡◌, ℕ, List, [], ◌∷◌, Option, Some, None, String, codes, option_map}
use Rattle.std.specs.Option.{option_map_or}
use Rattle.std.specs.String.{string_bytes}
use Rattle.std.specs.declared.alloc.Global.{Global}
use Rattle.std.specs.Str.Parse.{digits_value, without_leading_plus}
use Rattle.command_line.specs.declared.request.TheConstants.{DEFAULT_STEPS}
use Rattle.clap.specs.Words.{Row, Text, first_of}
use Rattle.command_line.specs.declared.request.Task.{Task}
use Rattle.command_line.specs.declared.request.Task.TheVariants.{Check, Build, Run, Explain, List as ListModule}

-- how many steps a task takes at most; one that runs nothing takes none
abbrev pub steps_of : Task → ℕ
steps_of (Check hierarchy source) = 0
steps_of (Build hierarchy source out) = 0
steps_of (Run file world under observer steps) = steps
steps_of (ListModule file) = 0
steps_of (Explain hierarchy source) = 0

-- the path of a file that may be left out
abbrev pub path_if_given : Option (String Global) → List (List ℕ)
path_if_given None = []
path_if_given (Some path) = string_bytes path ∷ []

-- the files that a task reads, in the order in which it names them; a run reads its hierarchy last, where one is named
abbrev pub paths_of : Task → List (List ℕ)
paths_of (Check hierarchy source) = string_bytes hierarchy ∷ string_bytes source ∷ []
paths_of (Build hierarchy source out) = string_bytes hierarchy ∷ string_bytes source ∷ []
paths_of (Run file world under observer steps) = string_bytes file ∷ string_bytes world ∷ path_if_given under
paths_of (ListModule file) = string_bytes file ∷ []
paths_of (Explain hierarchy source) = string_bytes hierarchy ∷ string_bytes source ∷ []

-- the number that a word writes in decimal, after a + or none
abbrev pub number_of : Text → ℕ
number_of word = digits_value 10 (without_leading_plus word)

-- the steps that the word of `--steps` writes, or a million where there is none
abbrev pub steps_in : List Row → ℕ
steps_in rows = option_map_or number_of (first_of (codes "steps") rows) DEFAULT_STEPS

-- the word that was given for the argument
abbrev pub IsWordOf : List Row → Text → Text → Type 0
IsWordOf rows id word = first_of id rows ≡ Some word

-- a subcommand under which these rows were found asks for the task
abbrev pub AsksFor : Text → List Row → Task → Type 0
AsksFor name rows (Check hierarchy source) =
    (name ≡ codes "check") × IsWordOf rows (codes "HIER") (string_bytes hierarchy)
    × IsWordOf rows (codes "SRC") (string_bytes source)
AsksFor name rows (Build hierarchy source out) =
    (name ≡ codes "build") × IsWordOf rows (codes "HIER") (string_bytes hierarchy)
    × IsWordOf rows (codes "SRC") (string_bytes source) × IsWordOf rows (codes "OUT") (string_bytes out)
AsksFor name rows (Run file world under observer steps) =
    (name ≡ codes "run") × IsWordOf rows (codes "MODULE") (string_bytes file) × IsWordOf rows (codes "WORLD") (string_bytes world)
    × (option_map string_bytes under ≡ first_of (codes "under") rows)
    × (option_map string_bytes observer ≡ first_of (codes "observer") rows)
    × (steps ≡ steps_in rows)
AsksFor name rows (ListModule file) =
    (name ≡ codes "list") × IsWordOf rows (codes "MODULE") (string_bytes file)
AsksFor name rows (Explain hierarchy source) =
    (name ≡ codes "explain") × IsWordOf rows (codes "HIER") (string_bytes hierarchy)
    × IsWordOf rows (codes "SRC") (string_bytes source)

-- what was met on the command line asks for the task
abbrev pub IsTaskOf : Option (Text × List Row) → Task → Type 0
IsTaskOf None task = ⊥
IsTaskOf (Some met) task = AsksFor met.0 met.1 task
