-- The command that the program takes, as a value: its subcommands, and the words of each.
-- Source: our own.
use Rattle.std.specs.Prelude.{true, List, [], ◌∷◌, Some, codes, fold}
use Rattle.command_line.specs.declared.request.TheConstants.{MAX_STEPS}
use Rattle.clap.specs.Words.{App, Rule, Text, new_app, new_rule, with_rule, with_subcommand}
use Rattle.clap.specs.Simple.{on_top}
use Rattle.clap.specs.declared.builder.action.ArgAction.TheVariants.{Set}
use Rattle.clap.specs.declared.builder.value_parser.ValueParser.{ValueParser}
use Rattle.clap.specs.declared.builder.value_parser.ValueParser.TheVariants.{Unsigned}

-- the path of a file, which must be given
abbrev pub file_rule : Text → Rule
file_rule id = record (new_rule id) { required = true; action = Some Set }

-- `--name VALUE`, which may be left out
abbrev pub option_rule : Text → Rule
option_rule name = record (new_rule name) { long = Some name; action = Some Set; value_names = 1 }

-- whole numbers from 0 to the most steps
abbrev pub step_numbers : ValueParser
step_numbers = Unsigned 0 MAX_STEPS

-- `--under HIER`
abbrev pub under_rule : Rule
under_rule = option_rule (codes "under")

-- `--observer NAME`
abbrev pub observer_rule : Rule
observer_rule = option_rule (codes "observer")

-- `--steps N`
abbrev pub steps_rule : Rule
steps_rule = record (option_rule (codes "steps")) { parser = Some step_numbers }

-- the subcommand of this name, with its arguments
abbrev pub command : Text → List Rule → App
command name rules = fold with_rule (new_app name) rules

-- `check HIER SRC`
abbrev pub check_command : App
check_command =
    command (codes "check") (file_rule (codes "HIER") ∷ file_rule (codes "SRC") ∷ [])

-- `build HIER SRC OUT`
abbrev pub build_command : App
build_command =
    command (codes "build")
    (file_rule (codes "HIER") ∷ file_rule (codes "SRC") ∷ file_rule (codes "OUT") ∷ [])

-- `run MODULE WORLD`, with the options anywhere
abbrev pub run_command : App
run_command =
    command (codes "run")
    (file_rule (codes "MODULE") ∷ file_rule (codes "WORLD") ∷ under_rule ∷ observer_rule ∷ steps_rule ∷ [])

-- `list MODULE`
abbrev pub list_command : App
list_command = command (codes "list") (file_rule (codes "MODULE") ∷ [])

-- `explain HIER SRC`
abbrev pub explain_command : App
explain_command =
    command (codes "explain") (file_rule (codes "HIER") ∷ file_rule (codes "SRC") ∷ [])

-- `flowc`, which has a version and wants one of the five
abbrev pub flowc_command : App
flowc_command =
    fold (λ above below. with_subcommand above below.top)
    (on_top (λ top. record top { subcommand_required = true; has_version = true }) (new_app (codes "flowc")))
    (check_command ∷ build_command ∷ run_command ∷ list_command ∷ explain_command ∷ [])
