-- Private: what the parser leaves under a subcommand of a command line that it takes.
-- Source: our own.
use Rattle.std.specs.Prelude.{◌≡◌, ◌⊎◌, true, false, List, Option, Some, None, IfSome, codes, is_some}
use Rattle.clap.specs.Words.{Accepts, Row, Text, first_of, found_of, one_of, rows_of}
use Rattle.clap.specs.declared.parser.matches.ArgMatches.{ArgMatches}
use Rattle.command_line.specs.Command.{step_numbers}

-- what was found for the arguments of one command
abbrev pub rows_in : ArgMatches → List Row
rows_in matches = rows_of (found_of matches)

-- a word was given for the argument
abbrev pub IsGiven : Text → List Row → Type 0
IsGiven id rows = is_some (first_of id rows) ≡ true

-- a word that was given for `--steps` is a number in the range, and is what a typed getter reads
abbrev pub HasStepsInRange : List Row → Type 0
HasStepsInRange rows = IfSome (first_of (codes "steps") rows) (Accepts false step_numbers)
    × (one_of (codes "steps") rows ≡ first_of (codes "steps") rows)

-- the words that `check` and `explain` need: the paths of the two texts
abbrev pub HasTextsWords : List Row → Type 0
HasTextsWords rows = IsGiven (codes "HIER") rows × IsGiven (codes "SRC") rows

-- the words that `build` needs
abbrev pub HasBuildWords : List Row → Type 0
HasBuildWords rows =
    IsGiven (codes "HIER") rows × IsGiven (codes "SRC") rows × IsGiven (codes "OUT") rows

-- the words that `run` needs
abbrev pub HasRunWords : List Row → Type 0
HasRunWords rows =
    IsGiven (codes "MODULE") rows × IsGiven (codes "WORLD") rows × HasStepsInRange rows

-- the word that `list` needs
abbrev pub HasListWords : List Row → Type 0
HasListWords rows = IsGiven (codes "MODULE") rows

-- the subcommand is one of the five, with each word that it needs
abbrev pub HasWords : Text → List Row → Type 0
HasWords name rows = ((name ≡ codes "check") × HasTextsWords rows)
    ⊎ (((name ≡ codes "build") × HasBuildWords rows)
    ⊎ (((name ≡ codes "run") × HasRunWords rows)
    ⊎ (((name ≡ codes "list") × HasListWords rows)
    ⊎ ((name ≡ codes "explain") × HasTextsWords rows))))

-- a subcommand was met, with each word that it needs
abbrev pub Enters : Option (Text × List Row) → Type 0
Enters None = ⊥
Enters (Some met) = HasWords met.0 met.1
