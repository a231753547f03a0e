-- What every row holds that a walk without fault leaves, over arguments that take one word.
use Rattle.std.proofs.Common.{◌≡◌, ◌∙◌, ◌⊎◌, ◌++◌, ◌&&◌, ℕ, Bool, cond, true, false, not, zero, suc, refl, sym, ap, subst, List, [], ◌∷◌, length, drop, Option, Some, None, codes, inl, inr, true≢false}
use Rattle.clap.specs.Values.{read_as}
use Rattle.std.specs.Prelude.{IfSome, option_and_then, option_map, ◌||◌, encode_utf8, slice_get}
use Rattle.std.specs.List.{find, fold, list_any}
use Rattle.std.specs.Option.{option_map_or, is_some}
use Rattle.std.specs.Str.{bytes_eq, chars}
use Rattle.clap.specs.Lexer.{long_of, short_of}
use Rattle.clap.specs.Facts.{explicit_source, parser_of_value, unwrap_or_range}
use Rattle.clap.specs.ValueTests.{accepts}
use Rattle.clap.specs.Walk.{default_rows, one_of, row_text, Held, Names, Outcome, Row, Rule, Step, Text, Waiting, Walk, action_of, after_flag, after_step, arg_by_id, arg_by_index, arg_by_long, arg_by_short, at_row, attached_value, bundle_met, bundle_step, done, first_of, flag_met, has_row, idle, long_met, long_or_other, more_values, most_values, next, nothing_held, option_met, plain, plain_word, positional, positional_held, reacted, reading_by, refused, rows_after, settled, settled_rows, short_met, short_or_plain, subcommand, subcommand_or_other, takes_values, to_positional, trailing, used, used_as, used_by_id, value, values_or_missing, waits, walk, walked, walked_from, with_default, with_values, without, word_met, option, option_word, pushed, is_pending, takes_several, subcommand_met, walk_from}
use Rattle.clap.specs.Simple.{Shape}
use Rattle.clap.specs.Takes.{is_given}
use Rattle.clap.specs.Kinds.{Kinds, check_kinds, or_else, range_kinds, value_kinds}
use Rattle.clap.specs.Faults.{action_fault, bundle_fault, stray_fault, bundle_step_fault, check_fault, flag_word_fault, flags_fault, level_fault, long_fault, option_fault, other_fault, positional_fault, react_fault, settle_fault, short_fault, step_fault, turn_fault, use_fault, walk_fault, word_fault}
use Rattle.clap.specs.declared.builder.action.ArgAction.TheVariants.{Set, Help}
use Rattle.clap.specs.declared.builder.value_parser.Reading.TheVariants.{AsWritten}
use Rattle.clap.specs.declared.error.kind.ErrorKind.{ErrorKind}
use Rattle.clap.specs.declared.error.kind.ErrorKind.TheVariants.{TooManyValues}
use Rattle.clap.specs.declared.parser.matches.ValueSource.TheVariants.{CommandLine}
use Rattle.command_line.specs.Command.{step_numbers}

-- ---- what a row holds

-- a word under `steps` is a number in the range, and any word may stand under another id
abbrev pub passes : Text → Text → Bool
passes id word = cond (bytes_eq id (codes "steps")) (accepts false step_numbers word) true

abbrev pub FirstPasses : Text → List Text → Type 0
FirstPasses id [] = ⊥
FirstPasses id (word ∷ rest) = passes id word ≡ true

-- the row has a word, which passes and is read as it is written
abbrev pub IsSound : Row → Type 0
IsSound r = FirstPasses r.id r.values × (r.reading ≡ AsWritten)

abbrev pub AllSound : List Row → Type 0
AllSound [] = Unit {0}
AllSound (r ∷ rs) = IsSound r × AllSound rs

-- ---- which arguments are meant

-- a use takes one word, or asks for help
abbrev pub TakesOne : Rule → Type 0
TakesOne a = (action_of a ≡ Set) × ((unwrap_or_range a.range).start_inclusive ≡ 1)

pub record IsWordRule (a : Rule) : Type 0 where
  pub fits : (word : Text) → value_kinds a.ignore_case (parser_of_value a.parser) word ≡ [] → passes a.id word ≡ true
  pub written : reading_by a ≡ AsWritten
  pub no_default : a.defaults ≡ []
  pub action : TakesOne a ⊎ (action_of a ≡ Help)

abbrev pub AllWordRules : List Rule → Type 0
AllWordRules [] = Unit {0}
AllWordRules (a ∷ rest) = IsWordRule a × AllWordRules rest

pub found_rule : (p : Rule → Bool) (c : List Rule) → AllWordRules c → IfSome (find p c) IsWordRule
found_rule p [] all = tt
found_rule p (a ∷ rest) all = go (p a) (found_rule p rest all.1)
  where
    go : (b : Bool) → IfSome (find p rest) IsWordRule → IfSome (cond b (Some a) (find p rest)) IsWordRule
    go true later = all.0
    go false later = later

-- ---- a step that passed

pub both_none : (a b : Kinds) → or_else a b ≡ [] → (a ≡ []) × (b ≡ [])
both_none [] b e = (refl, e)
both_none (k ∷ ks) b e = cc

pub some_kind : (k : ErrorKind) (ks : Kinds) → k ∷ ks ≡ [] → ⊥
some_kind k ks e = cc

-- ---- one use

joined : (xs ys : List Row) → AllSound xs → AllSound ys → AllSound (xs ++ ys)
joined [] ys x y = y
joined (r ∷ rs) ys x y = (x.0, joined rs ys x.1 y)

at_row_sound : (id : Text) (change : Row → List Row) (missing rows : List Row) → ((r : Row) → IsSound r → AllSound (change r)) → AllSound missing → AllSound rows
    → AllSound (at_row id change missing rows)
at_row_sound id change missing [] changed absent all = absent
at_row_sound id change missing (r ∷ rs) changed absent all = go (bytes_eq r.id id) (at_row_sound id change missing rs changed absent all.1)
  where
    go : (b : Bool) → AllSound (at_row id change missing rs) → AllSound (cond b (change r ++ rs) (r ∷ at_row id change missing rs))
    go true later = joined (change r) rs (changed r all.0) all.1
    go false later = (all.0, later)

first_passes_more : (id : Text) (xs ys : List Text) → FirstPasses id xs → FirstPasses id (xs ++ ys)
first_passes_more id [] ys h = absurd h
first_passes_more id (x ∷ xs) ys h = h

set_sound : (id : Text) (words : List Text) (rows : List Row) → FirstPasses id words → AllSound rows
    → AllSound (with_values id AsWritten CommandLine words (without id rows))
set_sound id words rows begins all =
    at_row_sound id (more_values CommandLine words) _ (without id rows)
    (λ r h. ((first_passes_more r.id r.values words h.0, h.1), tt))
    ((begins, refl), tt)
    (at_row_sound id (λ _. []) [] rows (λ r h. tt) tt all)

use_sound : (a : Rule) (again : Bool) (words : List Text) (rows : List Row) → IsWordRule a → (action_of a ≡ Set) → ((unwrap_or_range a.range).start_inclusive ≡ 1)
    → use_fault again a words rows ≡ [] → AllSound rows → AllSound (used a words rows)
use_sound a again [] rows rule set one e all =
    let ranged = (both_none _ _ e).0 in
    let missing : range_kinds 1 (most_values a) 0 ≡ [] = subst (λ n. range_kinds n (most_values a) 0 ≡ []) one ranged in
    absurd (some_kind _ _ missing)
use_sound a again (word ∷ rest) rows rule set one e all =
    let acted : action_fault Set again a (word ∷ rest) rows ≡ [] = subst (λ x. action_fault x again a (word ∷ rest) rows ≡ []) set (both_none _ _ e).1 in
    let passed = (both_none _ _ (both_none _ _ acted).1).0 in
    let here : AllSound (used_as Set a.id AsWritten (word ∷ rest) rows) = set_sound a.id (word ∷ rest) rows (rule.fits word passed) all in
    subst (λ x. AllSound (used_as x a.id (reading_by a) (word ∷ rest) rows)) (sym set)
    (subst (λ how. AllSound (used_as Set a.id how (word ∷ rest) rows)) (sym rule.written) here)

help_fails : (a : Rule) (again : Bool) (words : List Text) (rows : List Row) → action_of a ≡ Help → use_fault again a words rows ≡ [] → ⊥
help_fails a again words rows help e =
    some_kind _ _ (subst (λ x. action_fault x again a (values_or_missing a words) rows ≡ []) help (both_none _ _ e).1)

pub used_sound : (a : Rule) (again : Bool) (words : List Text) (rows : List Row) → IsWordRule a → use_fault again a words rows ≡ [] → AllSound rows → AllSound (used a words rows)
used_sound a again words rows rule e all = elim rule.action [
  | inl one ↦ use_sound a again words rows rule one.0 one.1 e all
  | inr help ↦ absurd (help_fails a again words rows help e)
]

-- ---- the steps of a walk

module _ (c : List Rule) (again : Bool) (rules : AllWordRules c) where
  by_id_sound : (found : Option Rule) (words : List Text) (rows : List Row) → IfSome found IsWordRule
      → option_map_or (λ a. use_fault again a words rows) found [] ≡ [] → AllSound rows → AllSound (used_by_id found words rows)
  by_id_sound None words rows rule e all = all
  by_id_sound (Some a) words rows rule e all = used_sound a again words rows rule e all

  rows_settled : (pending : Option (Text × List Text)) (rows : List Row)
      → option_map_or (λ p. option_map_or (λ a. use_fault again a p.1 rows) (arg_by_id c p.0) []) pending [] ≡ [] → AllSound rows → AllSound (settled_rows c pending rows)
  rows_settled None rows e all = all
  rows_settled (Some p) rows e all = by_id_sound (arg_by_id c p.0) p.1 rows (found_rule _ c rules) e all

  pub settled_sound : (h : Held) → settle_fault c again h ≡ [] → AllSound h.rows → AllSound (settled c h).rows
  settled_sound h e all = rows_settled h.pending h.rows e all

  reacted_sound : (a : Rule) (words : List Text) (h : Held) → IsWordRule a → react_fault c again a words h ≡ [] → AllSound h.rows → AllSound (reacted c a words h).rows
  reacted_sound a words h rule e all =
      let parts = both_none _ _ e in
      used_sound a again words (settled c h).rows rule parts.1 (settled_sound h parts.0 all)

  option_sound : (a : Rule) (v : Option Text) (h : Held) → IsWordRule a → option_fault c again a v h ≡ [] → AllSound h.rows → AllSound (option_met c a v h).0.rows
  option_sound a (Some v) h rule e all = reacted_sound a (v ∷ []) h rule e all
  option_sound a None h rule e all = settled_sound h e all

  long_sound : (found : Option Rule) (v : Option Text) (h : Held) → IfSome found IsWordRule → long_fault c again found v h ≡ [] → AllSound h.rows
      → AllSound (long_met c found v h).0.rows
  long_sound None v h rule e all = all
  long_sound (Some a) v h rule e all = go (takes_values a) v e
    where
      go : (b : Bool) (w : Option Text)
          → cond b (option_fault c again a w h) (cond (is_some w) (TooManyValues ∷ []) (react_fault c again a [] h)) ≡ []
          → AllSound (cond b (option_met c a w h) (flag_met c a w h)).0.rows
      go true w f = option_sound a w h rule f all
      go false (Some w) f = all
      go false None f = reacted_sound a [] h rule f all

  short_sound : (found : Option Rule) (rest : Text) (h : Held) (next_fault : Held → Kinds) (next_met : Held → Held × Outcome) → IfSome found IsWordRule
      → ((after : Held) → next_fault after ≡ [] → AllSound after.rows → AllSound (next_met after).0.rows)
      → short_fault c again found rest h next_fault ≡ [] → AllSound h.rows → AllSound (short_met c found rest h next_met).0.rows
  short_sound None rest h next_fault next_met rule later e all = all
  short_sound (Some a) rest h next_fault next_met rule later e all = go (takes_values a) e
    where
      go : (b : Bool) → cond b (option_fault c again a (attached_value rest) h) (or_else (react_fault c again a [] h) (next_fault (reacted c a [] h))) ≡ []
          → AllSound (cond b (option_met c a (attached_value rest) h) (next_met (reacted c a [] h))).0.rows
      go true f = option_sound a (attached_value rest) h rule f all
      go false f =
          let parts = both_none _ _ f in
          later (reacted c a [] h) parts.1 (reacted_sound a [] h rule parts.0 all)

  bundle_sound : (k : ℕ) (flags : Text) (skip : ℕ) (so_far : Outcome) (h : Held) → flags_fault c again k flags skip h ≡ [] → AllSound h.rows
      → AllSound (bundle_met c k flags skip so_far h).0.rows
  unfolding flags_fault bundle_met
  bundle_sound zero flags skip so_far h e all = all
  bundle_sound (suc k) flags skip so_far h e all =
      go (slice_get (chars flags) 0) skip (λ rest less outcome after. bundle_sound k rest less outcome after) e
    where
      go : (x : Option ℕ) (n : ℕ)
          → ((rest : Text) (less : ℕ) (outcome : Outcome) (after : Held) → flags_fault c again k rest less after ≡ [] → AllSound after.rows → AllSound (bundle_met c k rest less outcome after).0.rows)
          → bundle_step_fault c again x flags n h (flags_fault c again k) ≡ []
          → AllSound (bundle_step c x flags n so_far h (bundle_met c k)).0.rows
      go None n later f = all
      go (Some x) zero later f =
          short_sound (arg_by_short c x) (drop (length (encode_utf8 x)) flags) h _ _ (found_rule _ c rules) (λ after g held. later _ 0 done after g held) f all
      go (Some x) (suc n) later f = later (drop (length (encode_utf8 x)) flags) n so_far h f all

  plain_rows : (waiting : Waiting) (word : Text) (h : Held) → AllSound h.rows → AllSound (plain_word c waiting word h).0.rows
  plain_rows idle word h all = all
  plain_rows positional word h all = all
  plain_rows (option id) word h all = go (arg_by_id c id)
    where
      go : (found : Option Rule) → AllSound (option_word found id word h).0.rows
      go None = all
      go (Some a) = all

  flag_sound : (waiting : Waiting) (word : Text) (h : Held) (outcome : Outcome) → AllSound h.rows → AllSound (after_flag c waiting word h outcome).0.rows
  flag_sound waiting word h done all = all
  flag_sound waiting word h (waits id) all = all
  flag_sound waiting word h plain all = plain_rows waiting word h all
  flag_sound waiting word h refused all = plain_rows waiting word h all

  short_or_plain_sound : (waiting : Waiting) (word : Text) (flags : Option Text) (h : Held) → option_map_or (λ f. bundle_fault c again f h) flags [] ≡ [] → AllSound h.rows
      → AllSound (short_or_plain c waiting word flags h).0.rows
  short_or_plain_sound waiting word None h e all = plain_rows waiting word h all
  short_or_plain_sound waiting word (Some flags) h e all =
      let met = bundle_met c (length flags) flags h.skip plain (record h { skip = 0 }) in
      flag_sound waiting word met.0 met.1 (bundle_sound (length flags) flags h.skip plain (record h { skip = 0 }) e all)

  long_or_other_sound : (waiting : Waiting) (word : Text) (found : Option (Text × Option Text)) (h : Held) → flag_word_fault c again found word h ≡ [] → AllSound h.rows
      → AllSound (long_or_other c waiting word found h).0.rows
  long_or_other_sound waiting word None h e all = short_or_plain_sound waiting word (short_of word) h e all
  long_or_other_sound waiting word (Some p) h e all =
      let met = long_met c (arg_by_long c p.0) p.1 h in
      flag_sound waiting word met.0 met.1 (long_sound (arg_by_long c p.0) p.1 h (found_rule _ c rules) e all)

  -- the positional takes the word
  placed_sound : (a : Rule) (word : Text) (h : Held) → positional_fault c again a h ≡ [] → AllSound h.rows → AllSound (positional_held c a word h).rows
  placed_sound a word h e all = go (is_pending a h.pending && takes_several a) e
    where
      go : (b : Bool) → cond b [] (settle_fault c again h) ≡ [] → AllSound (pushed a.id word (cond b h (settled c h))).rows
      go true f = all
      go false f = settled_sound h f all

-- ---- a word

module _ (s : Shape) (names : Names) (rules : AllWordRules s.rules) where
  other_sound : (met : Option Text) (waiting : Waiting) (position : ℕ) (word : Text) (h : Held) → other_fault s met word h ≡ [] → AllSound h.rows
      → AllSound (subcommand_or_other s.rules met waiting position word h).0.rows
  other_sound (Some name) waiting position word h e all = all
  other_sound None waiting position word h e all = go (bytes_eq word (45 ∷ 45 ∷ [])) e
    where
      go : (b : Bool) → cond b [] (flag_word_fault s.rules s.args_override_self (long_of word) word h) ≡ []
          → AllSound (cond b (h, trailing position) (long_or_other s.rules waiting word (long_of word) h)).0.rows
      go true f = all
      go false f = long_or_other_sound s.rules s.args_override_self rules waiting word (long_of word) h f all

  word_sound : (is_trailing : Bool) (waiting : Waiting) (position : ℕ) (word : Text) (h : Held) → word_fault s names is_trailing waiting word h ≡ [] → AllSound h.rows
      → AllSound (word_met s.rules names is_trailing waiting position word h).0.rows
  word_sound true waiting position word h e all = all
  word_sound false waiting position word h e all = other_sound (subcommand_met names waiting word) waiting position word h e all

  step_sound : (w : Walk) (word : Text) (h : Held) (step : Step) → step_fault s w.position h step ≡ [] → AllSound h.rows
      → AllSound (after_step s.rules word w h step).held.rows
  step_sound w word h (next waiting) e all = all
  step_sound w word h (trailing position) e all = all
  step_sound w word h (subcommand name) e all = all
  step_sound w word h value e all = go (arg_by_index s.rules w.position) e
    where
      go : (found : Option Rule) → option_map_or (λ a. positional_fault s.rules s.args_override_self a h) found (stray_fault s) ≡ []
          → AllSound (to_positional s.rules found word w h).held.rows
      go None f = all
      go (Some a) f = placed_sound s.rules s.args_override_self rules a word h f all

  walked_sound : (w : Walk) (word : Text) → turn_fault s names w word ≡ [] → AllSound w.held.rows → AllSound (walked s.rules names w word).held.rows
  unfolding walked
  walked_sound w word e all = go w.stopped e
    where
      met : Held × Step
      met = word_met s.rules names w.is_trailing w.waiting w.position word w.held

      go : (stopped : Option (Text × List Text))
          → cond (is_some stopped) [] (or_else (word_fault s names w.is_trailing w.waiting word w.held) (step_fault s w.position met.0 met.1)) ≡ []
          → AllSound (walked_from s.rules names stopped w word).held.rows
      go (Some p) f = all
      go None f =
          let parts = both_none _ _ f in
          step_sound w word met.0 met.1 parts.1 (word_sound w.is_trailing w.waiting w.position word w.held parts.0 all)

  pub walk_sound : (words : List Text) (w : Walk) → walk_fault s names w words ≡ [] → AllSound w.held.rows → AllSound (fold (walked s.rules names) w words).held.rows
  unfolding walk_fault
  walk_sound [] w e all = all
  walk_sound (word ∷ rest) w e all =
      let parts = both_none _ _ e in
      walk_sound rest (walked s.rules names w word) parts.1 (walked_sound w word parts.0 all)

-- ---- after the walk

module _ (c : List Rule) (again : Bool) where
  default_sound : (a : Rule) (rows : List Row) → a.defaults ≡ [] → AllSound rows → AllSound (with_default rows a)
  default_sound a rows none all = go (has_row a.id rows)
    where
      unused : default_rows a.id (reading_by a) a.defaults rows ≡ rows
      unused = ap (λ values. default_rows a.id (reading_by a) values rows) none

      go : (b : Bool) → AllSound (cond b rows (default_rows a.id (reading_by a) a.defaults rows))
      go true = all
      go false = subst AllSound (sym unused) all

  defaults_sound : (rest : List Rule) (rows : List Row) → AllWordRules rest → AllSound rows → AllSound (fold with_default rows rest)
  defaults_sound [] rows rules all = all
  defaults_sound (a ∷ rest) rows rules all = defaults_sound rest (with_default rows a) rules.1 (default_sound a rows rules.0.no_default all)

-- the rows of a level that passed are sound, and its last checks passed
pub level_sound : (s : Shape) (words : List Text) → AllWordRules s.rules → level_fault s [] nothing_held words false [] ≡ []
    → AllSound (rows_after s.rules [] words) × (check_fault s (rows_after s.rules [] words) false ≡ [])
level_sound s words rules e =
    let end = (walk s.rules [] nothing_held words).held in
    let walked = both_none _ _ e in
    let settling = both_none _ _ walked.1 in
    let checking = both_none _ _ settling.1 in (
      defaults_sound s.rules s.args_override_self s.rules (settled s.rules end).rows rules
          (settled_sound s.rules s.args_override_self rules end settling.0 (walk_sound s [] rules words (walk_from nothing_held) walked.0 tt)),
      checking.1,
    )

-- ---- what is read of sound rows

found_row : (id : Text) (rows : List Row) → AllSound rows → IfSome (find (λ r. bytes_eq r.id id) rows) (λ r. IsSound r × (bytes_eq r.id id ≡ true))
found_row id [] all = tt
found_row id (r ∷ rs) all = go (bytes_eq r.id id) refl (found_row id rs all.1)
  where
    go : (b : Bool) → bytes_eq r.id id ≡ b → IfSome (find (λ x. bytes_eq x.id id) rs) (λ x. IsSound x × (bytes_eq x.id id ≡ true))
        → IfSome (cond b (Some r) (find (λ x. bytes_eq x.id id) rs)) (λ x. IsSound x × (bytes_eq x.id id ≡ true))
    go true e later = (all.0, e)
    go false e later = later

-- an argument that was given has a word
pub given_word : (id : Text) (rows : List Row) → AllSound rows → is_given id rows ≡ true → is_some (first_of id rows) ≡ true
given_word id rows all given = go (find (λ r. bytes_eq r.id id) rows) (found_row id rows all) given
  where
    first : (values : List Text) (own : Text) → FirstPasses own values → is_some (slice_get values 0) ≡ true
    first [] own h = absurd h
    first (word ∷ rest) own h = refl

    go : (found : Option Row) → IfSome found (λ r. IsSound r × (bytes_eq r.id id ≡ true)) → option_map_or (λ r. explicit_source r.source) found false ≡ true
        → is_some (option_and_then (λ (r : Row). slice_get r.values 0) found) ≡ true
    go None h e = absurd (true≢false (sym e))
    go (Some r) h e = first r.values r.id h.0.0

-- the word of `--steps` is in the range, and is what a typed getter reads
pub steps_word : (rows : List Row) → AllSound rows
    → IfSome (first_of (codes "steps") rows) (λ word. accepts false step_numbers word ≡ true) × (one_of (codes "steps") rows ≡ first_of (codes "steps") rows)
steps_word rows all = go (find (λ r. bytes_eq r.id (codes "steps")) rows) (found_row (codes "steps") rows all)
  where
    first : (id : Text) (values : List Text) → bytes_eq id (codes "steps") ≡ true → FirstPasses id values → IfSome (slice_get values 0) (λ word. accepts false step_numbers word ≡ true)
    first id [] named h = absurd h
    first id (word ∷ rest) named h = sym (ap (λ b. cond b (accepts false step_numbers word) true) named) ∙ h

    same : (o : Option Text) → option_map (read_as AsWritten) o ≡ o
    same None = refl
    same (Some t) = refl

    go : (found : Option Row) → IfSome found (λ r. IsSound r × (bytes_eq r.id (codes "steps") ≡ true))
        → IfSome (option_and_then (λ (r : Row). slice_get r.values 0) found) (λ word. accepts false step_numbers word ≡ true)
        × (option_and_then row_text found ≡ option_and_then (λ (r : Row). slice_get r.values 0) found)
    go None h = (tt, refl)
    go (Some r) h = (
      first r.id r.values h.1 h.0.0,
      ap (λ how. option_map (read_as how) (slice_get r.values 0)) h.0.1 ∙ same (slice_get r.values 0),
    )

-- the last check of a leaf finds each required argument
pub last_check : (wants_help wants_subcommand wants_argument : Bool) → check_kinds wants_help wants_subcommand wants_argument ≡ []
    → (wants_subcommand ≡ false) × (wants_argument ≡ false)
last_check true b d e = absurd (some_kind _ _ e)
last_check false true d e = absurd (some_kind _ _ e)
last_check false false true e = absurd (some_kind _ _ e)
last_check false false false e = (refl, refl)

abbrev pub AllGiven : List Row → List Rule → Type 0
AllGiven rows [] = Unit {0}
AllGiven rows (a ∷ rest) = (a.required ≡ true → is_given a.id rows ≡ true) × AllGiven rows rest

pub none_missing : (rows : List Row) (rules : List Rule) → list_any (λ a. a.required && not (is_given a.id rows)) rules ≡ false → AllGiven rows rules
none_missing rows [] e = tt
none_missing rows (a ∷ rest) e = go a.required (is_given a.id rows) e (none_missing rows rest)
  where
    go : (wanted given : Bool) → (wanted && not given || list_any (λ x. x.required && not (is_given x.id rows)) rest) ≡ false
        → (list_any (λ x. x.required && not (is_given x.id rows)) rest ≡ false → AllGiven rows rest)
        → (wanted ≡ true → given ≡ true) × AllGiven rows rest
    go true true f later = (λ _. refl, later f)
    go true false f later = absurd (true≢false f)
    go false given f later = (λ w. absurd (true≢false (sym w)), later f)

-- the rows of a level that passed are sound, and hold what is required
pub level_given : (s : Shape) (words : List Text) → AllWordRules s.rules → s.subcommand_negates_reqs ≡ false → level_fault s [] nothing_held words false [] ≡ []
    → AllSound (rows_after s.rules [] words) × AllGiven (rows_after s.rules [] words) s.rules
level_given s words rules asks e =
    let level = level_sound s words rules e in
    let rows = rows_after s.rules [] words in
    let missing = (last_check _ _ _ level.1).1 in
    let asked : list_any (λ a. a.required && not (is_given a.id rows)) s.rules ≡ false =
    sym (ap (λ b. not (b && false) && list_any (λ a. a.required && not (is_given a.id rows)) s.rules) asks) ∙ missing in
    (level.0, none_missing rows s.rules asked)
