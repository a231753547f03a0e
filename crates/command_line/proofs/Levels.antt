-- Which subcommand a command line without fault enters, and what was found under it.
use Rattle.std.proofs.Common.{◌≡◌, ◌∙◌, ◌⊎◌, ◌&&◌, ◌||◌, ℕ, Bool, cond, true, false, not, refl, sym, ap, List, [], ◌∷◌, length, Option, Some, None, codes, inl, inr, true≢false}
use Rattle.std.specs.Prelude.{IfSome, option_map}
use Rattle.std.specs.List.{fold}
use Rattle.std.specs.Option.{option_map_or, is_some}
use Rattle.std.specs.Str.{bytes_eq}
use Rattle.std.proofs.lemmas.Slice.Eq.{bytes_eq-Decides}
use Rattle.clap.specs.Lexer.{long_of, short_of}
use Rattle.clap.specs.ValueTests.{accepts}
use Rattle.clap.specs.Walk.{Held, Names, Outcome, Row, Rule, Step, Text, Waiting, Walk, after_flag, after_step, arg_by_index, arg_by_long, bundle_met, done, idle, long_met, long_or_other, next, nothing_held, option, plain, plain_word, positional, refused, rows_after, short_or_plain, stop_after, subcommand, subcommand_met, subcommand_or_other, to_positional, trailing, value, waits, walk_from, walked, walked_from, word_met}
use Rattle.clap.specs.Simple.{Shape, argument_words, built, built_leaf, entered, help_shape, inherited, marked_built, names_of, on_top, rows_at, subcommand_of, with_leaf_noted}
use Rattle.clap.specs.Kinds.{Kinds, or_else}
use Rattle.clap.specs.Faults.{check_fault, entered_fault, fault_of, level_fault, other_fault, step_fault, turn_fault, walk_fault, word_fault}
use Rattle.clap.specs.Values.{Accepts}
use Rattle.clap.proofs.ValueTestLemmas.{accepts-Accepts}
use Rattle.command_line.specs.Matched.{Enters, HasBuildWords, HasListWords, HasRunWords, IsGiven}
use Rattle.command_line.specs.Command.{build_command, check_command, command, explain_command, file_rule, flowc_command, list_command, run_command, step_numbers}
use Rattle.clap.specs.Walk.{action_of, reading_by}
use Rattle.clap.specs.declared.builder.action.ArgAction.TheVariants.{Help}
use Rattle.clap.specs.declared.builder.value_parser.Reading.TheVariants.{AsWritten}
use Rattle.clap.specs.declared.error.kind.ErrorKind.{ErrorKind}
use Rattle.clap.specs.declared.error.kind.ErrorKind.TheVariants.{DisplayHelp, InvalidSubcommand}
use Rattle.command_line.proofs.Rows.{AllWordRules, IsWordRule, TakesOne, both_none, given_word, last_check, level_given, some_kind, steps_word}

-- ---- a walk without fault does not stop at `help`

abbrev IsOwn : Option (Text × List Text) → Type 0
IsOwn stop = IfSome stop (λ p. bytes_eq p.0 (codes "help") ≡ false)

abbrev OwnStep : Step → Type 0
OwnStep (subcommand name) = bytes_eq name (codes "help") ≡ false
OwnStep (next waiting) = Unit {0}
OwnStep (trailing position) = Unit {0}
OwnStep value = Unit {0}

module _ (c : List Rule) where
  plain_own : (waiting : Waiting) (word : Text) (h : Held) → OwnStep (plain_word c waiting word h).1
  plain_own idle word h = tt
  plain_own positional word h = tt
  plain_own (option id) word h = tt

  flag_own : (waiting : Waiting) (word : Text) (h : Held) (outcome : Outcome) → OwnStep (after_flag c waiting word h outcome).1
  flag_own waiting word h done = tt
  flag_own waiting word h (waits id) = tt
  flag_own waiting word h plain = plain_own waiting word h
  flag_own waiting word h refused = plain_own waiting word h

  short_or_plain_own : (waiting : Waiting) (word : Text) (flags : Option Text) (h : Held) → OwnStep (short_or_plain c waiting word flags h).1
  short_or_plain_own waiting word None h = plain_own waiting word h
  short_or_plain_own waiting word (Some flags) h =
      let met = bundle_met c (length flags) flags h.skip plain (record h { skip = 0 }) in
      flag_own waiting word met.0 met.1

  long_or_other_own : (waiting : Waiting) (word : Text) (found : Option (Text × Option Text)) (h : Held) → OwnStep (long_or_other c waiting word found h).1
  long_or_other_own waiting word None h = short_or_plain_own waiting word (short_of word) h
  long_or_other_own waiting word (Some p) h =
      let met = long_met c (arg_by_long c p.0) p.1 h in
      flag_own waiting word met.0 met.1

module _ (s : Shape) (names : Names) (helps : s.disable_help_subcommand ≡ false) where
  not_help : (name : Text) (word : Text) (h : Held) → other_fault s (Some name) word h ≡ [] → bytes_eq name (codes "help") ≡ false
  not_help name word h e = go (bytes_eq name (codes "help")) s.disable_help_subcommand helps e
    where
      go : (b off : Bool) → off ≡ false → cond (b && not off) (DisplayHelp ∷ InvalidSubcommand ∷ []) [] ≡ [] → b ≡ false
      go false off o f = refl
      go true true o f = absurd (true≢false o)
      go true false o f = absurd (some_kind _ _ f)

  other_own : (met : Option Text) (waiting : Waiting) (position : ℕ) (word : Text) (h : Held) → other_fault s met word h ≡ []
      → OwnStep (subcommand_or_other s.rules met waiting position word h).1
  other_own (Some name) waiting position word h e = not_help name word h e
  other_own None waiting position word h e = go (bytes_eq word (45 ∷ 45 ∷ []))
    where
      go : (b : Bool) → OwnStep (cond b (h, trailing position) (long_or_other s.rules waiting word (long_of word) h)).1
      go true = tt
      go false = long_or_other_own s.rules waiting word (long_of word) h

  word_own : (is_trailing : Bool) (waiting : Waiting) (position : ℕ) (word : Text) (h : Held) → word_fault s names is_trailing waiting word h ≡ []
      → OwnStep (word_met s.rules names is_trailing waiting position word h).1
  word_own true waiting position word h e = tt
  word_own false waiting position word h e = other_own (subcommand_met names waiting word) waiting position word h e

  step_own : (w : Walk) (word : Text) (h : Held) (step : Step) → OwnStep step → IsOwn w.stopped → IsOwn (after_step s.rules word w h step).stopped
  step_own w word h (next waiting) own before = before
  step_own w word h (trailing position) own before = before
  step_own w word h (subcommand name) own before = own
  step_own w word h value own before = go (arg_by_index s.rules w.position)
    where
      go : (found : Option Rule) → IsOwn (to_positional s.rules found word w h).stopped
      go None = before
      go (Some a) = tt

  walked_own : (w : Walk) (word : Text) → turn_fault s names w word ≡ [] → IsOwn w.stopped → IsOwn (walked s.rules names w word).stopped
  unfolding walked
  walked_own w word e before = go w.stopped before e
    where
      met : Held × Step
      met = word_met s.rules names w.is_trailing w.waiting w.position word w.held

      go : (stopped : Option (Text × List Text)) → IsOwn stopped
          → cond (is_some stopped) [] (or_else (word_fault s names w.is_trailing w.waiting word w.held) (step_fault s w.position met.0 met.1)) ≡ []
          → IsOwn (walked_from s.rules names stopped w word).stopped
      go (Some p) own f = own
      go None own f = step_own w word met.0 met.1 (word_own w.is_trailing w.waiting w.position word w.held (both_none _ _ f).0) before

  walk_own : (words : List Text) (w : Walk) → walk_fault s names w words ≡ [] → IsOwn w.stopped → IsOwn (fold (walked s.rules names) w words).stopped
  unfolding walk_fault
  walk_own [] w e own = own
  walk_own (word ∷ rest) w e own =
      let parts = both_none _ _ e in
      walk_own rest (walked s.rules names w word) parts.1 (walked_own w word parts.0 own)

-- ---- the subcommands, as they are built

abbrev pub above : Shape
above = (on_top with_leaf_noted (on_top marked_built flowc_command)).top

abbrev pub leaf : Shape → Shape
leaf s = built_leaf (inherited above s)

-- a subcommand that takes a hierarchy and a source, by its name
abbrev pub texts_leaf : Text → Shape
texts_leaf name = leaf (command name (file_rule (codes "HIER") ∷ file_rule (codes "SRC") ∷ [])).top

abbrev pub check_leaf : Shape
check_leaf = leaf check_command.top

abbrev pub explain_leaf : Shape
explain_leaf = leaf explain_command.top

abbrev pub build_leaf : Shape
build_leaf = leaf build_command.top

abbrev pub run_leaf : Shape
run_leaf = leaf run_command.top

abbrev pub list_leaf : Shape
list_leaf = leaf list_command.top

passed_as : (b : Bool) (k : ErrorKind) → cond b [] (k ∷ []) ≡ [] → b ≡ true
passed_as true k e = refl
passed_as false k e = absurd (some_kind _ _ e)

-- an argument that is not `steps` takes any word
any_word : (a : Rule) → bytes_eq a.id (codes "steps") ≡ false → reading_by a ≡ AsWritten → a.defaults ≡ [] → (TakesOne a ⊎ (action_of a ≡ Help)) → IsWordRule a
any_word a other how none action = record {
  fits = λ word e. ap (λ b. cond b (accepts false step_numbers word) true) other;
  written = how;
  no_default = none;
  action = action;
}

texts_rules : (name : Text) → AllWordRules (texts_leaf name).rules
texts_rules name =
    let one = λ (a : Rule) (other : bytes_eq a.id (codes "steps") ≡ false) (how : reading_by a ≡ AsWritten) (none : a.defaults ≡ []) (takes : TakesOne a). any_word a other how none (inl takes) in
    (one _ refl refl refl (refl, refl), (one _ refl refl refl (refl, refl), (any_word _ refl refl refl (inr refl), tt)))

build_rules : AllWordRules build_leaf.rules
build_rules =
    (any_word _ refl refl refl (inl (refl, refl)), (any_word _ refl refl refl (inl (refl, refl)), (any_word _ refl refl refl (inl (refl, refl)), (any_word _ refl refl refl (inr refl), tt))))

run_rules : AllWordRules run_leaf.rules
run_rules = (
  any_word _ refl refl refl (inl (refl, refl)),
  (
    any_word _ refl refl refl (inl (refl, refl)),
    (
      any_word _ refl refl refl (inl (refl, refl)),
      (
        any_word _ refl refl refl (inl (refl, refl)),
        (
          record { fits = λ word e. passed_as _ _ e; written = refl; no_default = refl; action = inl (refl, refl) },
          (any_word _ refl refl refl (inr refl), tt),
        ),
      ),
    ),
  ),
)

list_rules : AllWordRules list_leaf.rules
list_rules = (any_word _ refl refl refl (inl (refl, refl)), (any_word _ refl refl refl (inr refl), tt))

-- ---- what a command line without fault enters

texts_words : (name : Text) (words : List Text) → level_fault (texts_leaf name) [] nothing_held words false [] ≡ []
    → IsGiven (codes "HIER") (rows_after (texts_leaf name).rules [] words) × IsGiven (codes "SRC") (rows_after (texts_leaf name).rules [] words)
texts_words name words e =
    let level = level_given (texts_leaf name) words (texts_rules name) refl e in
    (given_word _ _ level.0 (level.1.0 refl), given_word _ _ level.0 (level.1.1.0 refl))

build_words : (words : List Text) → level_fault build_leaf [] nothing_held words false [] ≡ [] → HasBuildWords (rows_after build_leaf.rules [] words)
build_words words e =
    let level = level_given build_leaf words build_rules refl e in
    (given_word _ _ level.0 (level.1.0 refl), given_word _ _ level.0 (level.1.1.0 refl), given_word _ _ level.0 (level.1.1.1.0 refl))

run_words : (words : List Text) → level_fault run_leaf [] nothing_held words false [] ≡ [] → HasRunWords (rows_after run_leaf.rules [] words)
run_words words e =
    let level = level_given run_leaf words run_rules refl e in
    let steps = steps_word _ level.0 in
    (given_word _ _ level.0 (level.1.0 refl), given_word _ _ level.0 (level.1.1.0 refl), (accepted _ steps.0, steps.1))
  where
    accepted : (word : Option Text) → IfSome word (λ w. accepts false step_numbers w ≡ true) → IfSome word (Accepts false step_numbers)
    accepted None h = tt
    accepted (Some w) h = accepts-Accepts false step_numbers w h

list_words : (words : List Text) → level_fault list_leaf [] nothing_held words false [] ≡ [] → HasListWords (rows_after list_leaf.rules [] words)
list_words words e =
    let level = level_given list_leaf words list_rules refl e in
    given_word _ _ level.0 (level.1.0 refl)

-- the leaf that answers to the name
abbrev first_leaf : Bool → Bool → Bool → Bool → Bool → Bool → Option Shape
first_leaf is_check is_build is_run is_list is_explain is_help =
    cond is_check (Some check_leaf) (cond is_build (Some build_leaf) (cond is_run (Some run_leaf)
    (cond is_list (Some list_leaf) (cond is_explain (Some explain_leaf) (cond is_help (Some (built_leaf help_shape)) None)))))

leaf_words : (is_check is_build is_run is_list is_explain is_help : Bool) (words : List Text) → is_help ≡ false
    → option_map_or (λ s. level_fault s [] nothing_held words false []) (first_leaf is_check is_build is_run is_list is_explain is_help) [] ≡ []
    → is_some (option_map (λ s. rows_at s words) (first_leaf is_check is_build is_run is_list is_explain is_help)) ≡ true
    → Enters (option_map (λ s. rows_at s words) (first_leaf is_check is_build is_run is_list is_explain is_help))
leaf_words true is_build is_run is_list is_explain is_help words own e there = inl (refl, texts_words (codes "check") words e)
leaf_words false true is_run is_list is_explain is_help words own e there = inr (inl (refl, build_words words e))
leaf_words false false true is_list is_explain is_help words own e there = inr (inr (inl (refl, run_words words e)))
leaf_words false false false true is_explain is_help words own e there = inr (inr (inr (inl (refl, list_words words e))))
leaf_words false false false false true is_help words own e there = inr (inr (inr (inr (refl, texts_words (codes "explain") words e))))
leaf_words false false false false false true words own e there = absurd (true≢false own)
leaf_words false false false false false false words own e there = absurd (true≢false (sym there))

named_help : (name : Text) → bytes_eq name (codes "help") ≡ false → (bytes_eq (codes "help") name || false) ≡ false
named_help name other = go (bytes_eq (codes "help") name) refl
  where
    go : (b : Bool) → bytes_eq (codes "help") name ≡ b → (b || false) ≡ false
    go false e = refl
    go true e =
        let same : codes "help" ≡ name = (bytes_eq-Decides (codes "help") name).0 e in
        sym ((bytes_eq-Decides name (codes "help")).1 (sym same)) ∙ other

entered_words : (stop : Option (Text × List Text)) → IsOwn stop → entered_fault (built flowc_command) stop ≡ [] → is_some (entered (built flowc_command) stop) ≡ true
    → Enters (entered (built flowc_command) stop)
entered_words None own e there = absurd (true≢false (sym there))
entered_words (Some p) own e there = leaf_words _ _ _ _ _ _ p.1 (named_help p.0 own) e there

-- the steps of a level that passed
pub level_parts : (s : Shape) (names : Names) (words : List Text) (has : Bool) (below : Kinds) → level_fault s names nothing_held words has below ≡ []
    → (walk_fault s names (walk_from nothing_held) words ≡ []) × (below ≡ []) × (check_fault s (rows_after s.rules names words) has ≡ [])
level_parts s names words has below e =
    let walked = both_none _ _ e in
    let entering = both_none _ _ walked.1 in
    let settling = both_none _ _ entering.1 in
    (walked.0, entering.0, (both_none _ _ settling.1).1)

-- where a subcommand is wanted, there is one
subcommand_there : (s : Shape) (rows : List Row) (has : Bool) → s.subcommand_required ≡ true → check_fault s rows has ≡ [] → has ≡ true
subcommand_there s rows has wants e = go has s.subcommand_required wants (last_check _ _ _ e).0
  where
    go : (b wanted : Bool) → wanted ≡ true → (not b && wanted) ≡ false → b ≡ true
    go true wanted w f = refl
    go false true w f = absurd (true≢false f)
    go false false w f = absurd (true≢false (sym w))

-- a command line without fault enters one of the five, with each word that it needs
pub enters : (words : List Text) → fault_of flowc_command words ≡ [] → Enters (subcommand_of flowc_command words)
enters words e =
    let top = (built flowc_command).top in
    let names = names_of (built flowc_command) in
    let rest = argument_words flowc_command words in
    let stop = stop_after top.rules names rest in
    let parts = level_parts top names rest (is_some (entered (built flowc_command) stop)) (entered_fault (built flowc_command) stop) e in
    entered_words stop (walk_own top names refl rest (walk_from nothing_held) parts.0 tt) parts.1
    (subcommand_there top (rows_after top.rules names rest) (is_some (entered (built flowc_command) stop)) refl parts.2)
