-- The walk over words that are written plainly passes, and what it finds.
use Rattle.std.proofs.Common.{◌≡◌, ◌∙◌, ◌++◌, ◌≤◌, ◌==◌, ℕ, Bool, cond, true, false, refl, sym, ap, ap₂, subst, arith, drop, List, [], ◌∷◌, Option, Some, None, codes, true≢false, append_assoc, append-nil}
use Rattle.std.specs.Prelude.{IfSome, option_and_then, option_map}
use Rattle.std.specs.Fmt.{decimal}
use Rattle.std.specs.List.{find, fold}
use Rattle.std.specs.Option.{option_map_or, is_some}
use Rattle.std.specs.Str.{bytes_eq}
use Rattle.std.specs.Str.Parse.{IsNumeral, digits_value, starts_with_minus, without_leading_plus}
use Rattle.std.proofs.lemmas.Bool.{ne_eqb}
use Rattle.std.proofs.lemmas.Fmt.{decimal_is_IsNumeral}
use Rattle.std.proofs.lemmas.Slice.Eq.{bytes_eq-Decides}
use Rattle.std.proofs.lemmas.Str.Parse.{digit_from_value}
use Rattle.clap.specs.Lexer.{long_of, long_of_rest, short_of, short_of_rest, strip_byte}
use Rattle.clap.specs.ValueTests.{accepts}
use Rattle.clap.specs.Walk.{Held, Names, Row, Rule, Step, Text, Waiting, Walk, after_step, answers_to, finished, idle, long_or_other, nothing_held, option, plain_word, positional, rows_after, settled, short_or_plain, subcommand_or_other, trailing, walk, walk_from, walked, word_met}
use Rattle.clap.specs.declared.builder.value_parser.Reading.TheVariants.{AsWritten}
use Rattle.clap.specs.declared.parser.matches.ValueSource.TheVariants.{CommandLine}
use Rattle.clap.specs.Simple.{Shape, built, entered, label_of, names_of, rows_at, subcommand_of}
use Rattle.clap.specs.Kinds.{Kinds, or_else}
use Rattle.clap.specs.Faults.{bundle_fault, check_fault, defaults_fault, entered_fault, fault_of, flag_word_fault, level_fault, settle_fault, step_fault, turn_fault, walk_fault, word_fault}
use Rattle.clap.proofs.FaultLemmas.{stopped_fault}
use Rattle.clap.proofs.OnLiterals.{clap_on_literals}
use Rattle.clap.proofs.ValueTestLemmas.{Accepts-accepts}
use Rattle.command_line.specs.Command.{flowc_command, step_numbers}
use Rattle.clap.specs.declared.error.kind.ErrorKind.TheVariants.{ValueValidation}
use Rattle.command_line.specs.Task.{number_of}
use Rattle.command_line.specs.Request.{IsNoOption, IsPlainRequest, Request, observer_words, spelled, steps_words, under_words, to_build, to_check, to_explain, to_list, to_run}
use Rattle.command_line.proofs.Levels.{build_leaf, check_leaf, explain_leaf, list_leaf, run_leaf, texts_leaf}

-- ---- a plain word

not_long : (word : Text) → IsNoOption word → long_of word ≡ None
not_long [] plain = refl
not_long (x ∷ xs) plain = ap (λ b. option_and_then long_of_rest (option_and_then (strip_byte 45) (cond b (Some xs) None))) plain

not_short : (word : Text) → IsNoOption word → short_of word ≡ None
not_short [] plain = refl
not_short (x ∷ xs) plain = ap (λ b. option_and_then short_of_rest (cond b (Some xs) None)) plain

not_dashes : (word : Text) → IsNoOption word → bytes_eq word (45 ∷ 45 ∷ []) ≡ false
not_dashes word plain = go (bytes_eq word (45 ∷ 45 ∷ [])) refl
  where
    go : (b : Bool) → bytes_eq word (45 ∷ 45 ∷ []) ≡ b → bytes_eq word (45 ∷ 45 ∷ []) ≡ false
    go false e = e
    go true e =
        let same : word ≡ 45 ∷ 45 ∷ [] = (bytes_eq-Decides word (45 ∷ 45 ∷ [])).0 e in
        absurd (true≢false (sym (ap starts_with_minus same) ∙ plain))

pub plain_or : (c : List Rule) (waiting : Waiting) (position : ℕ) (word : Text) (h : Held) → IsNoOption word → subcommand_or_other c None waiting position word h ≡ plain_word c waiting word h
plain_or c waiting position word h plain =
    ap (λ b. cond b (h, trailing position) (long_or_other c waiting word (long_of word) h)) (not_dashes word plain)
    ∙ ap (λ o. long_or_other c waiting word o h) (not_long word plain) ∙ ap (λ o. short_or_plain c waiting word o h) (not_short word plain)

pub plain_met : (c : List Rule) (waiting : Waiting) (position : ℕ) (word : Text) (h : Held) → IsNoOption word → word_met c [] false waiting position word h ≡ plain_word c waiting word h
plain_met c idle position word h plain = plain_or c idle position word h plain
plain_met c (option id) position word h plain = plain_or c (option id) position word h plain
plain_met c positional position word h plain = plain_or c positional position word h plain

pub plain_other : (s : Shape) (word : Text) (h : Held) → IsNoOption word
    → cond (bytes_eq word (45 ∷ 45 ∷ [])) [] (flag_word_fault s.rules s.args_override_self (long_of word) word h) ≡ []
plain_other s word h plain =
    ap (λ b. cond b [] (flag_word_fault s.rules s.args_override_self (long_of word) word h)) (not_dashes word plain)
    ∙ ap (λ o. flag_word_fault s.rules s.args_override_self o word h) (not_long word plain)
    ∙ ap (λ o. option_map_or (λ flags. bundle_fault s.rules s.args_override_self flags h) o []) (not_short word plain)

pub plain_passes : (s : Shape) (waiting : Waiting) (word : Text) (h : Held) → IsNoOption word → word_fault s [] false waiting word h ≡ []
plain_passes s idle word h plain = plain_other s word h plain
plain_passes s (option id) word h plain = plain_other s word h plain
plain_passes s positional word h plain = plain_other s word h plain

-- ---- a walk without fault

pub record Goes (s : Shape) (w : Walk) (words : List Text) (after : Walk) : Type 0 where
  pub ends : fold (walked s.rules []) w words ≡ after
  pub passes : walk_fault s [] w words ≡ []

pub stays : (s : Shape) (w : Walk) → Goes s w [] w
unfolding walk_fault
stays s w = record { ends = refl; passes = refl }

pub goes_on : (s : Shape) (w next : Walk) (word : Text) (rest : List Text) (after : Walk) → walked s.rules [] w word ≡ next → turn_fault s [] w word ≡ [] → Goes s next rest after
    → Goes s w (word ∷ rest) after
unfolding walk_fault
goes_on s w next word rest after is passed later = record {
  ends = ap (λ v. fold (walked s.rules []) v rest) is ∙ later.ends;
  passes = ap₂ (λ a v. or_else a (walk_fault s [] v rest)) passed is ∙ later.passes;
}

-- the walk after a plain word
abbrev pub stepped : List Rule → Walk → Text → Walk
stepped c w word = after_step c word w (plain_word c w.waiting word w.held).0 (plain_word c w.waiting word w.held).1

pub plain_walked : (c : List Rule) (held : Held) (waiting : Waiting) (position : ℕ) (word : Text) → IsNoOption word
    → walked c [] (record { held = held; waiting = waiting; position = position; is_trailing = false; stopped = None }) word
    ≡ stepped c (record { held = held; waiting = waiting; position = position; is_trailing = false; stopped = None }) word
unfolding walked
plain_walked c held waiting position word plain =
    let w : Walk = record { held = held; waiting = waiting; position = position; is_trailing = false; stopped = None } in
    ap (λ (met : Held × Step). after_step c word w met.0 met.1) (plain_met c waiting position word held plain)

pub plain_turn_is : (s : Shape) (held : Held) (waiting : Waiting) (position : ℕ) (word : Text) → IsNoOption word
    → turn_fault s [] (record { held = held; waiting = waiting; position = position; is_trailing = false; stopped = None }) word
    ≡ step_fault s position (plain_word s.rules waiting word held).0 (plain_word s.rules waiting word held).1
plain_turn_is s held waiting position word plain =
    ap₂ (λ a (met : Held × Step). or_else a (step_fault s position met.0 met.1)) (plain_passes s waiting word held plain) (plain_met s.rules waiting position word held plain)

pub goes_plain : (s : Shape) (held : Held) (waiting : Waiting) (position : ℕ) (word : Text) (rest : List Text) (after : Walk) → IsNoOption word
    → step_fault s position (plain_word s.rules waiting word held).0 (plain_word s.rules waiting word held).1 ≡ []
    → Goes s (stepped s.rules (record { held = held; waiting = waiting; position = position; is_trailing = false; stopped = None }) word) rest after
    → Goes s (record { held = held; waiting = waiting; position = position; is_trailing = false; stopped = None }) (word ∷ rest) after
goes_plain s held waiting position word rest after plain placed later =
    goes_on s _ _ word rest after (plain_walked s.rules held waiting position word plain) (plain_turn_is s held waiting position word plain ∙ placed) later

-- ---- a level

all_pass : (a b : Kinds) → a ≡ [] → b ≡ [] → or_else a b ≡ []
all_pass a b first second = ap₂ or_else first second

pub record Finds (s : Shape) (words : List Text) (found : List Row) : Type 0 where
  pub passes : level_fault s [] nothing_held words false [] ≡ []
  pub rows : rows_after s.rules [] words ≡ found

pub found_along : (s : Shape) (words : List Text) (after : Walk) → Goes s (walk_from nothing_held) words after → settle_fault s.rules s.args_override_self after.held ≡ []
    → defaults_fault (settled s.rules after.held).rows s.rules ≡ [] → check_fault s (finished s.rules after.held) false ≡ []
    → Finds s words (finished s.rules after.held)
found_along s words after goes settles fills checks =
    let rest = λ (w : Walk). or_else (settle_fault s.rules s.args_override_self w.held) (or_else (defaults_fault (settled s.rules w.held).rows s.rules) (check_fault s (finished s.rules w.held) false)) in
    record {
      passes = all_pass _ _ goes.passes (ap rest goes.ends ∙ all_pass _ _ settles (all_pass _ _ fills checks));
      rows = ap (λ (w : Walk). finished s.rules w.held) goes.ends;
    }

-- ---- the plain words of each subcommand

-- the row of a word
abbrev pub row : Text → Text → Row
row id word = record { id = id; values = word ∷ []; count = None; source = Some CommandLine; reading = AsWritten }

pub texts_found : (name hierarchy source : Text) → IsNoOption hierarchy → IsNoOption source
    → Finds (texts_leaf name) (hierarchy ∷ source ∷ []) (row (codes "HIER") hierarchy ∷ row (codes "SRC") source ∷ [])
unfolding clap_on_literals
texts_found name hierarchy source h s =
    found_along (texts_leaf name) _ _
    (goes_plain (texts_leaf name) _ _ _ hierarchy _ _ h refl (goes_plain (texts_leaf name) _ _ _ source _ _ s refl (stays (texts_leaf name) _)))
    refl refl refl

pub build_found : (hierarchy source out : Text) → IsNoOption hierarchy → IsNoOption source → IsNoOption out
    → Finds build_leaf (hierarchy ∷ source ∷ out ∷ []) (row (codes "HIER") hierarchy ∷ row (codes "SRC") source ∷ row (codes "OUT") out ∷ [])
unfolding clap_on_literals
build_found hierarchy source out h s o =
    found_along build_leaf _ _
    (goes_plain build_leaf _ _ _ hierarchy _ _ h refl (goes_plain build_leaf _ _ _ source _ _ s refl (goes_plain build_leaf _ _ _ out _ _ o refl (stays build_leaf _))))
    refl refl refl

pub list_found : (file : Text) → IsNoOption file → Finds list_leaf (file ∷ []) (row (codes "MODULE") file ∷ [])
unfolding clap_on_literals
list_found file f = found_along list_leaf _ _ (goes_plain list_leaf _ _ _ file _ _ f refl (stays list_leaf _)) refl refl refl

abbrev pub under_rows : Option Text → List Row
under_rows None = []
under_rows (Some path) = row (codes "under") path ∷ []

abbrev pub observer_rows : Option Text → List Row
observer_rows None = []
observer_rows (Some name) = row (codes "observer") name ∷ []

abbrev pub steps_rows : Option ℕ → List Row
steps_rows None = []
steps_rows (Some steps) = row (codes "steps") (decimal steps) ∷ []

-- a number is written plainly, and in the range if it is
numeral_plain : (ds : List ℕ) → IsNumeral 10 ds → IsNoOption ds
numeral_plain [] h = absurd (omega arith)
numeral_plain (d ∷ ds) h = ne_eqb _ _ (λ e. omega (arith, digit_from_value d h.1.0))

numeral_unsigned : (ds : List ℕ) → IsNumeral 10 ds → without_leading_plus ds ≡ ds
numeral_unsigned [] h = refl
numeral_unsigned (d ∷ ds) h =
    let plus : (d == 43) ≡ false = ne_eqb _ _ (λ e. omega (arith, digit_from_value d h.1.0)) in
    ap (λ (b : Bool). drop (cond b 1 0) (d ∷ ds)) plus

decimal_numeral : (n : ℕ) → n ≤ 1000000000000 → IsNumeral 10 (decimal n) × (digits_value 10 (decimal n) ≡ n)
decimal_numeral n most = decimal_is_IsNumeral n (omega arith)

pub decimal_read : (n : ℕ) → n ≤ 1000000000000 → number_of (decimal n) ≡ n
decimal_read n most =
    let numeral = decimal_numeral n most in
    ap (digits_value 10) (numeral_unsigned (decimal n) numeral.0) ∙ numeral.1

decimal_accepted : (n : ℕ) → n ≤ 1000000000000 → accepts false step_numbers (decimal n) ≡ true
decimal_accepted n most =
    let numeral = decimal_numeral n most in
    let read = decimal_read n most in
    Accepts-accepts false step_numbers (decimal n)
    (subst (IsNumeral 10) (sym (numeral_unsigned (decimal n) numeral.0)) numeral.0, rw read (omega arith), omega arith, rw read most)

-- the last use, of `--steps`, passes
steps_settle : (word : Text) → accepts false step_numbers word ≡ true → or_else (cond (accepts false step_numbers word) [] (ValueValidation ∷ [])) [] ≡ []
steps_settle word accepted = ap (λ b. or_else (cond b [] (ValueValidation ∷ [])) []) accepted

pub run_found : (file world : Text) (under observer : Option Text) (steps : Option ℕ)
    → IsNoOption file → IsNoOption world → IfSome under IsNoOption → IfSome observer IsNoOption → IfSome steps (λ n. n ≤ 1000000000000)
    → Finds run_leaf (file ∷ world ∷ (under_words under ++ (observer_words observer ++ steps_words steps)))
    (row (codes "MODULE") file ∷ row (codes "WORLD") world ∷ (under_rows under ++ (observer_rows observer ++ steps_rows steps)))
unfolding clap_on_literals
run_found file world None None None f w u o n =
    found_along run_leaf _ _
    (goes_plain run_leaf _ _ _ file _ _ f refl (goes_plain run_leaf _ _ _ world _ _ w refl (stays run_leaf _)))
    refl refl refl
run_found file world None None (Some steps) f w u o n =
    found_along run_leaf _ _
    (goes_plain run_leaf _ _ _ file _ _ f refl (goes_plain run_leaf _ _ _ world _ _ w refl (goes_on run_leaf _ _ (codes "--steps") _ _ refl refl (goes_plain run_leaf _ _ _ (decimal steps) _ _ (numeral_plain _ (decimal_numeral steps n).0) refl (stays run_leaf _)))))
    (steps_settle (decimal steps) (decimal_accepted steps n)) refl refl
run_found file world None (Some name) None f w u o n =
    found_along run_leaf _ _
    (goes_plain run_leaf _ _ _ file _ _ f refl (goes_plain run_leaf _ _ _ world _ _ w refl (goes_on run_leaf _ _ (codes "--observer") _ _ refl refl (goes_plain run_leaf _ _ _ name _ _ o refl (stays run_leaf _)))))
    refl refl refl
run_found file world None (Some name) (Some steps) f w u o n =
    found_along run_leaf _ _
    (goes_plain run_leaf _ _ _ file _ _ f refl (goes_plain run_leaf _ _ _ world _ _ w refl (goes_on run_leaf _ _ (codes "--observer") _ _ refl refl (goes_plain run_leaf _ _ _ name _ _ o refl (goes_on run_leaf _ _ (codes "--steps") _ _ refl refl (goes_plain run_leaf _ _ _ (decimal steps) _ _ (numeral_plain _ (decimal_numeral steps n).0) refl (stays run_leaf _)))))))
    (steps_settle (decimal steps) (decimal_accepted steps n)) refl refl
run_found file world (Some path) None None f w u o n =
    found_along run_leaf _ _
    (goes_plain run_leaf _ _ _ file _ _ f refl (goes_plain run_leaf _ _ _ world _ _ w refl (goes_on run_leaf _ _ (codes "--under") _ _ refl refl (goes_plain run_leaf _ _ _ path _ _ u refl (stays run_leaf _)))))
    refl refl refl
run_found file world (Some path) None (Some steps) f w u o n =
    found_along run_leaf _ _
    (goes_plain run_leaf _ _ _ file _ _ f refl (goes_plain run_leaf _ _ _ world _ _ w refl (goes_on run_leaf _ _ (codes "--under") _ _ refl refl (goes_plain run_leaf _ _ _ path _ _ u refl (goes_on run_leaf _ _ (codes "--steps") _ _ refl refl (goes_plain run_leaf _ _ _ (decimal steps) _ _ (numeral_plain _ (decimal_numeral steps n).0) refl (stays run_leaf _)))))))
    (steps_settle (decimal steps) (decimal_accepted steps n)) refl refl
run_found file world (Some path) (Some name) None f w u o n =
    found_along run_leaf _ _
    (goes_plain run_leaf _ _ _ file _ _ f refl (goes_plain run_leaf _ _ _ world _ _ w refl (goes_on run_leaf _ _ (codes "--under") _ _ refl refl (goes_plain run_leaf _ _ _ path _ _ u refl (goes_on run_leaf _ _ (codes "--observer") _ _ refl refl (goes_plain run_leaf _ _ _ name _ _ o refl (stays run_leaf _)))))))
    refl refl refl
run_found file world (Some path) (Some name) (Some steps) f w u o n =
    found_along run_leaf _ _
    (goes_plain run_leaf _ _ _ file _ _ f refl (goes_plain run_leaf _ _ _ world _ _ w refl (goes_on run_leaf _ _ (codes "--under") _ _ refl refl (goes_plain run_leaf _ _ _ path _ _ u refl (goes_on run_leaf _ _ (codes "--observer") _ _ refl refl (goes_plain run_leaf _ _ _ name _ _ o refl (goes_on run_leaf _ _ (codes "--steps") _ _ refl refl (goes_plain run_leaf _ _ _ (decimal steps) _ _ (numeral_plain _ (decimal_numeral steps n).0) refl (stays run_leaf _)))))))))
    (steps_settle (decimal steps) (decimal_accepted steps n)) refl refl

-- ---- the whole command line

-- once a subcommand was met, the walk keeps the words after it
met_walk : (c : List Rule) (names : Names) (w : Walk) (name : Text) (before rest : List Text)
    → fold (walked c names) (record w { stopped = Some (name, before) }) rest ≡ record w { stopped = Some (name, before ++ rest) }
unfolding walked
met_walk c names w name before [] = ap (λ words. record w { stopped = Some (name, words) }) (sym (append-nil before))
met_walk c names w name before (x ∷ xs) =
    met_walk c names w name (before ++ x ∷ []) xs ∙ ap (λ words. record w { stopped = Some (name, words) }) (append_assoc before (x ∷ []) xs)

abbrev pub top : Shape
top = (built flowc_command).top

abbrev pub names : Names
names = names_of (built flowc_command)

abbrev pub at_name : Text → List Text → Walk
at_name name rest = record (walk_from nothing_held) { stopped = Some (name, rest) }

-- the walk over a subcommand's name, and the words after it
pub named_walk : (name : Text) (rest : List Text) → walked top.rules names (walk_from nothing_held) name ≡ at_name name []
    → walk top.rules names nothing_held (name ∷ rest) ≡ at_name name rest
named_walk name rest met =
    ap (λ w. fold (walked top.rules names) w rest) met ∙ met_walk top.rules names (walk_from nothing_held) name [] rest

named_passes : (name : Text) (rest : List Text) → walked top.rules names (walk_from nothing_held) name ≡ at_name name [] → turn_fault top names (walk_from nothing_held) name ≡ []
    → walk_fault top names (walk_from nothing_held) (name ∷ rest) ≡ []
unfolding walk_fault
named_passes name rest met turned =
    ap₂ (λ a w. or_else a (walk_fault top names w rest)) turned met ∙ stopped_fault top names (walk_from nothing_held) (name, []) rest

-- what comes after the walk
abbrev after_walk : Kinds → Walk → Kinds
after_walk walking w =
    or_else walking (or_else (entered_fault (built flowc_command) w.stopped) (or_else (settle_fault top.rules top.args_override_self w.held)
    (or_else (defaults_fault (settled top.rules w.held).rows top.rules) (check_fault top (finished top.rules w.held) (is_some (entered (built flowc_command) w.stopped))))))

pub record Takes (words : List Text) (met : Option (Text × List Row)) : Type 0 where
  pub passes : fault_of flowc_command words ≡ []
  pub meets : subcommand_of flowc_command words ≡ met

pub taken : (program name : Text) (s : Shape) (rest : List Text) (rows : List Row) → walked top.rules names (walk_from nothing_held) name ≡ at_name name []
    → turn_fault top names (walk_from nothing_held) name ≡ [] → find (λ x. answers_to name (label_of x)) (built flowc_command).subs ≡ Some s
    → Finds s rest rows → Takes (program ∷ name ∷ rest) (Some (s.name, rows))
unfolding defaults_fault
taken program name s rest rows met turned leaf found =
    let ends = named_walk name rest met in
    let entering = λ (o : Option Shape). or_else (option_map_or (λ x. level_fault x [] nothing_held rest false []) o [])
    (check_fault top [] (is_some (option_map (λ x. rows_at x rest) o))) in
    record {
      passes = ap₂ after_walk (named_passes name rest met turned) ends ∙ ap entering leaf ∙ all_pass _ [] found.passes refl;
      meets = ap (λ (w : Walk). entered (built flowc_command) w.stopped) ends ∙ ap (option_map (λ x. rows_at x rest)) leaf ∙ ap (λ rs. Some (s.name, rs)) found.rows;
    }

-- the words of a plain request, and what they are taken for
abbrev pub met_by : Request → Text × List Row
met_by (to_check hierarchy source) = (codes "check", row (codes "HIER") hierarchy ∷ row (codes "SRC") source ∷ [])
met_by (to_build hierarchy source out) = (codes "build", row (codes "HIER") hierarchy ∷ row (codes "SRC") source ∷ row (codes "OUT") out ∷ [])
met_by (to_run file world under observer steps) =
    (codes "run", row (codes "MODULE") file ∷ row (codes "WORLD") world ∷ (under_rows under ++ (observer_rows observer ++ steps_rows steps)))
met_by (to_list file) = (codes "list", row (codes "MODULE") file ∷ [])
met_by (to_explain hierarchy source) = (codes "explain", row (codes "HIER") hierarchy ∷ row (codes "SRC") source ∷ [])

pub request_taken : (program : Text) (request : Request) → IsPlainRequest request → Takes (program ∷ spelled request) (Some (met_by request))
unfolding clap_on_literals
request_taken program (to_check hierarchy source) plain = taken program (codes "check") check_leaf _ _ refl refl refl (texts_found (codes "check") hierarchy source plain.0 plain.1)
request_taken program (to_build hierarchy source out) plain = taken program (codes "build") build_leaf _ _ refl refl refl (build_found hierarchy source out plain.0 plain.1 plain.2)
request_taken program (to_run file world under observer steps) plain =
    taken program (codes "run") run_leaf _ _ refl refl refl (run_found file world under observer steps plain.0 plain.1 plain.2 plain.3 plain.4)
request_taken program (to_list file) plain = taken program (codes "list") list_leaf _ _ refl refl refl (list_found file plain)
request_taken program (to_explain hierarchy source) plain = taken program (codes "explain") explain_leaf _ _ refl refl refl (texts_found (codes "explain") hierarchy source plain.0 plain.1)
