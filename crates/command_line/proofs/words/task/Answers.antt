use Rattle.std.proofs.Common.{◌≡◌, ◌∙◌, List, [], Ok, Err, ap, refl, subst, sym, true}
use Rattle.clap.specs.Walk.{texts}
use Rattle.clap.specs.Words.{HasMatchesOf, Text, app_of, fault_of, is_simple, is_simple_and_free, subcommand_of, subcommand_rows_of}
use Rattle.clap.specs.declared.builder.command.Command.{Command}
use Rattle.clap.specs.declared.parser.matches.ArgMatches.{ArgMatches}
use Rattle.command_line.specs.Command.{flowc_command}
use Rattle.command_line.specs.Matched.{Enters}
use Rattle.command_line.specs.Task.{IsTaskOf}
use Rattle.command_line.proofs.Grants.{only_granted, request_granted}
use Rattle.command_line.proofs.Levels.{enters}
use Rattle.command_line.proofs.Getters.{memory_only, refused_without}
use Rattle.command_line.proofs.words.task.Goals as goal

is_simple_here : is_simple_and_free flowc_command ≡ true
is_simple_here = refl

met_here : (command : Command) (words : List Text) (m : ArgMatches) → app_of command ≡ flowc_command → HasMatchesOf (app_of command) words m
    → subcommand_rows_of m ≡ subcommand_of flowc_command words
met_here command words m is has = (has (ap is_simple is)).1 ∙ ap (λ a. subcommand_of a words) is

-- the parser finds no fault where it takes the words
passed_here : (command : Command) (words : List Text) → app_of command ≡ flowc_command → (is_simple_and_free (app_of command) ≡ true → fault_of (app_of command) words ≡ [])
    → fault_of flowc_command words ≡ []
passed_here command words is taken = sym (ap (λ a. fault_of a words) is) ∙ taken (ap is_simple_and_free is ∙ is_simple_here)

pub read_matches-requires : goal.read_matches-requires
read_matches-requires c =
    let words = texts c.args.words.now in
    let is = c.in_ok-command.ensures.shape in
    let passed = passed_here c.in_ok-command.command words is c.in-Ok.ensures.kinds in
    let met = met_here c.in_ok-command.command words c.in-Ok.matches is c.in-Ok.ensures.matches in
    record { met = subst Enters (sym met) (enters words passed) }

pub returns-in_ok-read_matches-in-Ok-clause-accepted : goal.returns-in_ok-read_matches-in-Ok-clause-accepted
returns-in_ok-read_matches-in-Ok-clause-accepted c =
    passed_here c.in_ok-command.command (texts c.args.words.now) c.in_ok-command.ensures.shape c.in-Ok.ensures.kinds

pub returns-in-Err-clause-rejected : goal.returns-in-Err-clause-rejected
returns-in-Err-clause-rejected c =
    let words = texts c.args.words.now in
    let is = c.in_ok-command.ensures.shape in
    refused_without _ c.words_fault.result (λ none. c.words_fault.ensures.memory
    (memory_only _ c.in-Err.error (c.in-Err.ensures.kinds (ap is_simple_and_free is ∙ is_simple_here)) (ap (λ a. fault_of a words) is ∙ none)))

pub returns-in_ok-read_matches-in-Ok-clause-complete : goal.returns-in_ok-read_matches-in-Ok-clause-complete
returns-in_ok-read_matches-in-Ok-clause-complete c =
    let words = texts c.args.words.now in
    let met = met_here c.in_ok-command.command words c.in-Ok.matches c.in_ok-command.ensures.shape c.in-Ok.ensures.matches in
    request_granted (Ok c.in_ok-read_matches-in-Ok.field-0) words (subst (λ m. IsTaskOf m c.in_ok-read_matches-in-Ok.field-0) met c.in_ok-read_matches-in-Ok.ensures.matched) tt

pub returns-in_ok-read_matches-in-Ok-clause-spelled : goal.returns-in_ok-read_matches-in-Ok-clause-spelled
returns-in_ok-read_matches-in-Ok-clause-spelled c =
    let words = texts c.args.words.now in
    let met = met_here c.in_ok-command.command words c.in-Ok.matches c.in_ok-command.ensures.shape c.in-Ok.ensures.matches in
    only_granted (Ok c.in_ok-read_matches-in-Ok.field-0) words (subst (λ m. IsTaskOf m c.in_ok-read_matches-in-Ok.field-0) met c.in_ok-read_matches-in-Ok.ensures.matched)
    (returns-in_ok-read_matches-in-Ok-clause-accepted c)

pub returns-in-Err-clause-complete : goal.returns-in-Err-clause-complete
returns-in-Err-clause-complete c = request_granted (Err c.words_fault.result) (texts c.args.words.now) tt (returns-in-Err-clause-rejected c)
