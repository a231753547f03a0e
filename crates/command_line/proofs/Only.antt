-- A command line with no option that is taken is the spelling of a request.
use Rattle.std.proofs.Common.{◌≡◌, ◌∙◌, ◌⊎◌, ℕ, Bool, false, true, refl, sym, ap, ap₂, subst, List, [], ◌∷◌, None, codes, inl, inr}
use Rattle.std.specs.Prelude.{option_map}
use Rattle.std.specs.List.{find, list_any}
use Rattle.std.specs.Option.{is_some}
use Rattle.std.specs.Str.{bytes_eq}
use Rattle.std.specs.Str.Parse.{starts_with_minus}
use Rattle.std.proofs.lemmas.Slice.Eq.{bytes_eq-Decides}
use Rattle.std.proofs.lemmas.Bool.{or_parts}
use Rattle.clap.specs.Walk.{Held, Step, Text, Waiting, Walk, answers_to, finished, idle, nothing_held, plain_word, rows_after, subcommand_or_other, walk, walk_from, walked}
use Rattle.clap.specs.Simple.{Shape, built, entered}
use Rattle.clap.specs.Kinds.{or_else}
use Rattle.clap.specs.Faults.{check_fault, entered_fault, fault_of, level_fault, other_fault, step_fault, turn_fault, walk_fault}
use Rattle.clap.proofs.OnLiterals.{clap_on_literals}
use Rattle.clap.specs.declared.error.kind.ErrorKind.TheVariants.{InvalidSubcommand, UnknownArgument}
use Rattle.command_line.specs.Command.{flowc_command}
use Rattle.command_line.specs.Request.{HasNoOption, IsNoOption, IsPlainRequest, Request, spelled, to_build, to_check, to_explain, to_list, to_run}
use Rattle.command_line.proofs.Levels.{build_leaf, level_parts, list_leaf, run_leaf, texts_leaf}
use Rattle.command_line.proofs.Plain.{Goes, at_name, goes_plain, named_walk, names, plain_or, plain_other, plain_turn_is, plain_walked, stays, stepped, top}
use Rattle.command_line.proofs.Rows.{both_none, some_kind}

-- ---- a plain word, where the walk passes

module _ (s : Shape) (held : Held) (waiting : Waiting) (position : ℕ) (word : Text) (rest : List Text) (plain : IsNoOption word) where
  abbrev here : Walk
  here = record { held = held; waiting = waiting; position = position; is_trailing = false; stopped = None }

  -- a positional took it
  pub placed : walk_fault s [] here (word ∷ rest) ≡ [] → step_fault s position (plain_word s.rules waiting word held).0 (plain_word s.rules waiting word held).1 ≡ []
  unfolding walk_fault
  placed e = sym (plain_turn_is s held waiting position word plain) ∙ (both_none _ _ e).0

  -- and the walk passes after it
  pub passed : walk_fault s [] here (word ∷ rest) ≡ [] → walk_fault s [] (stepped s.rules here word) rest ≡ []
  unfolding walk_fault
  passed e = sym (ap (λ w. walk_fault s [] w rest) (plain_walked s.rules held waiting position word plain)) ∙ (both_none _ _ e).1

abbrev AllPlain : List Text → Type 0
AllPlain words = list_any starts_with_minus words ≡ false

-- ---- how many words a subcommand takes

-- the last check reads where the walk ends
checked_after : (s : Shape) (words : List Text) (after : Walk) → Goes s (walk_from nothing_held) words after → check_fault s (rows_after s.rules [] words) false ≡ []
    → check_fault s (finished s.rules after.held) false ≡ []
checked_after s words after goes e = subst (λ (w : Walk). check_fault s (finished s.rules w.held) false ≡ []) goes.ends e

texts_two : (name : Text) (rest : List Text) → AllPlain rest → level_fault (texts_leaf name) [] nothing_held rest false [] ≡ []
    → (hierarchy : Text) × (source : Text) × IsNoOption hierarchy × IsNoOption source × (rest ≡ hierarchy ∷ source ∷ [])
unfolding clap_on_literals
texts_two name [] plain e = absurd (some_kind _ _ (level_parts (texts_leaf name) [] [] false [] e).2)
texts_two name (h ∷ []) plain e =
    let p = or_parts _ _ plain in
    absurd (some_kind _ _ (checked_after (texts_leaf name) (h ∷ []) _ (goes_plain (texts_leaf name) _ _ _ h _ _ p.0 refl (stays (texts_leaf name) _)) (level_parts (texts_leaf name) [] (h ∷ []) false [] e).2))
texts_two name (h ∷ s ∷ []) plain e =
    let p = or_parts _ _ plain in
    let q = or_parts _ _ p.1 in
    (h, s, p.0, q.0, refl)
texts_two name (h ∷ s ∷ x ∷ more) plain e =
    let p = or_parts _ _ plain in
    let q = or_parts _ _ p.1 in
    let r = or_parts _ _ q.1 in
    let start = walk_from nothing_held in
    let one = stepped (texts_leaf name).rules start h in
    let two = stepped (texts_leaf name).rules one s in
    let after_one = passed (texts_leaf name) start.held start.waiting start.position h (s ∷ x ∷ more) p.0 (level_parts (texts_leaf name) [] (h ∷ s ∷ x ∷ more) false [] e).0 in
    let after_two = passed (texts_leaf name) one.held one.waiting one.position s (x ∷ more) q.0 after_one in
    absurd (some_kind _ _ (placed (texts_leaf name) two.held two.waiting two.position x more r.0 after_two))

run_two : (rest : List Text) → AllPlain rest → level_fault run_leaf [] nothing_held rest false [] ≡ []
    → (file : Text) × (world : Text) × IsNoOption file × IsNoOption world × (rest ≡ file ∷ world ∷ [])
unfolding clap_on_literals
run_two [] plain e = absurd (some_kind _ _ (level_parts run_leaf [] [] false [] e).2)
run_two (h ∷ []) plain e =
    let p = or_parts _ _ plain in
    absurd (some_kind _ _ (checked_after run_leaf (h ∷ []) _ (goes_plain run_leaf _ _ _ h _ _ p.0 refl (stays run_leaf _)) (level_parts run_leaf [] (h ∷ []) false [] e).2))
run_two (h ∷ s ∷ []) plain e =
    let p = or_parts _ _ plain in
    let q = or_parts _ _ p.1 in
    (h, s, p.0, q.0, refl)
run_two (h ∷ s ∷ x ∷ more) plain e =
    let p = or_parts _ _ plain in
    let q = or_parts _ _ p.1 in
    let r = or_parts _ _ q.1 in
    let start = walk_from nothing_held in
    let one = stepped run_leaf.rules start h in
    let two = stepped run_leaf.rules one s in
    let after_one = passed run_leaf start.held start.waiting start.position h (s ∷ x ∷ more) p.0 (level_parts run_leaf [] (h ∷ s ∷ x ∷ more) false [] e).0 in
    let after_two = passed run_leaf one.held one.waiting one.position s (x ∷ more) q.0 after_one in
    absurd (some_kind _ _ (placed run_leaf two.held two.waiting two.position x more r.0 after_two))

list_one : (rest : List Text) → AllPlain rest → level_fault list_leaf [] nothing_held rest false [] ≡ [] → (file : Text) × IsNoOption file × (rest ≡ file ∷ [])
unfolding clap_on_literals
list_one [] plain e = absurd (some_kind _ _ (level_parts list_leaf [] [] false [] e).2)
list_one (file ∷ []) plain e = (file, (or_parts _ _ plain).0, refl)
list_one (file ∷ x ∷ more) plain e =
    let p = or_parts _ _ plain in
    let q = or_parts _ _ p.1 in
    let start = walk_from nothing_held in
    let one = stepped list_leaf.rules start file in
    let after_one = passed list_leaf start.held start.waiting start.position file (x ∷ more) p.0 (level_parts list_leaf [] (file ∷ x ∷ more) false [] e).0 in
    absurd (some_kind _ _ (placed list_leaf one.held one.waiting one.position x more q.0 after_one))

build_three : (rest : List Text) → AllPlain rest → level_fault build_leaf [] nothing_held rest false [] ≡ []
    → (hierarchy : Text) × (source : Text) × (out : Text) × IsNoOption hierarchy × IsNoOption source × IsNoOption out × (rest ≡ hierarchy ∷ source ∷ out ∷ [])
unfolding clap_on_literals
build_three [] plain e = absurd (some_kind _ _ (level_parts build_leaf [] [] false [] e).2)
build_three (h ∷ []) plain e =
    let p = or_parts _ _ plain in
    absurd (some_kind _ _ (checked_after build_leaf (h ∷ []) _ (goes_plain build_leaf _ _ _ h _ _ p.0 refl (stays build_leaf _)) (level_parts build_leaf [] (h ∷ []) false [] e).2))
build_three (h ∷ s ∷ []) plain e =
    let p = or_parts _ _ plain in
    let q = or_parts _ _ p.1 in
    absurd (some_kind _ _ (checked_after build_leaf (h ∷ s ∷ []) _
    (goes_plain build_leaf _ _ _ h _ _ p.0 refl (goes_plain build_leaf _ _ _ s _ _ q.0 refl (stays build_leaf _))) (level_parts build_leaf [] (h ∷ s ∷ []) false [] e).2))
build_three (h ∷ s ∷ o ∷ []) plain e =
    let p = or_parts _ _ plain in
    let q = or_parts _ _ p.1 in
    let r = or_parts _ _ q.1 in
    (h, s, o, p.0, q.0, r.0, refl)
build_three (h ∷ s ∷ o ∷ x ∷ more) plain e =
    let p = or_parts _ _ plain in
    let q = or_parts _ _ p.1 in
    let r = or_parts _ _ q.1 in
    let t = or_parts _ _ r.1 in
    let start = walk_from nothing_held in
    let one = stepped build_leaf.rules start h in
    let two = stepped build_leaf.rules one s in
    let three = stepped build_leaf.rules two o in
    let after_one = passed build_leaf start.held start.waiting start.position h (s ∷ o ∷ x ∷ more) p.0 (level_parts build_leaf [] (h ∷ s ∷ o ∷ x ∷ more) false [] e).0 in
    let after_two = passed build_leaf one.held one.waiting one.position s (o ∷ x ∷ more) q.0 after_one in
    let after_three = passed build_leaf two.held two.waiting two.position o (x ∷ more) r.0 after_two in
    absurd (some_kind _ _ (placed build_leaf three.held three.waiting three.position x more t.0 after_three))

-- ---- the subcommand's name

same_or : (a b : Text) → (a ≡ b) ⊎ (bytes_eq a b ≡ false)
same_or a b = go (bytes_eq a b) refl
  where
    go : (x : Bool) → bytes_eq a b ≡ x → (a ≡ b) ⊎ (bytes_eq a b ≡ false)
    go true e = inl ((bytes_eq-Decides a b).0 e)
    go false e = inr e

-- a plain word that is no subcommand is refused
unknown_turn : (name : Text) → IsNoOption name → find (answers_to name) names ≡ None → turn_fault top names (walk_from nothing_held) name ≡ UnknownArgument ∷ InvalidSubcommand ∷ []
unknown_turn name plain none =
    let met = ap (option_map (λ (s : Text × List Text). s.0)) none in
    ap₂ (λ a (m : Held × Step). or_else a (step_fault top 1 m.0 m.1))
    (ap (λ o. other_fault top o name nothing_held) met ∙ plain_other top name nothing_held plain)
    (ap (λ o. subcommand_or_other top.rules o idle 1 name nothing_held) met ∙ plain_or top.rules idle 1 name nothing_held plain)

first_turn : (program name : Text) (rest : List Text) → fault_of flowc_command (program ∷ name ∷ rest) ≡ [] → turn_fault top names (walk_from nothing_held) name ≡ []
unfolding walk_fault
first_turn program name rest e =
    let stop = (walk top.rules names nothing_held (name ∷ rest)).stopped in
    (both_none _ _ (level_parts top names (name ∷ rest) (is_some (entered (built flowc_command) stop)) (entered_fault (built flowc_command) stop) e).0).0

below : (program name : Text) (rest : List Text) → walked top.rules names (walk_from nothing_held) name ≡ at_name name [] → fault_of flowc_command (program ∷ name ∷ rest) ≡ []
    → entered_fault (built flowc_command) (at_name name rest).stopped ≡ []
below program name rest met e =
    let stop = (walk top.rules names nothing_held (name ∷ rest)).stopped in
    sym (ap (λ (w : Walk). entered_fault (built flowc_command) w.stopped) (named_walk name rest met))
    ∙ (level_parts top names (name ∷ rest) (is_some (entered (built flowc_command) stop)) (entered_fault (built flowc_command) stop) e).1

abbrev pub IsSpelled : List Text → Type 0
IsSpelled words = (program : Text) × (request : Request) × IsPlainRequest request × (words ≡ program ∷ spelled request)

as_check : (program : Text) (rest : List Text) → AllPlain rest → fault_of flowc_command (program ∷ codes "check" ∷ rest) ≡ [] → IsSpelled (program ∷ codes "check" ∷ rest)
unfolding clap_on_literals
as_check program rest plain e =
    let two = texts_two (codes "check") rest plain (below program (codes "check") rest refl e) in
    (program, to_check two.0 two.1, (two.2, two.3), ap (λ words. program ∷ codes "check" ∷ words) two.4)

as_build : (program : Text) (rest : List Text) → AllPlain rest → fault_of flowc_command (program ∷ codes "build" ∷ rest) ≡ [] → IsSpelled (program ∷ codes "build" ∷ rest)
unfolding clap_on_literals
as_build program rest plain e =
    let three = build_three rest plain (below program (codes "build") rest refl e) in
    (program, to_build three.0 three.1 three.2, (three.3, three.4, three.5), ap (λ words. program ∷ codes "build" ∷ words) three.6)

as_run : (program : Text) (rest : List Text) → AllPlain rest → fault_of flowc_command (program ∷ codes "run" ∷ rest) ≡ [] → IsSpelled (program ∷ codes "run" ∷ rest)
unfolding clap_on_literals
as_run program rest plain e =
    let two = run_two rest plain (below program (codes "run") rest refl e) in
    (program, to_run two.0 two.1 None None None, (two.2, two.3, tt, tt, tt), ap (λ words. program ∷ codes "run" ∷ words) two.4)

as_list : (program : Text) (rest : List Text) → AllPlain rest → fault_of flowc_command (program ∷ codes "list" ∷ rest) ≡ [] → IsSpelled (program ∷ codes "list" ∷ rest)
unfolding clap_on_literals
as_list program rest plain e =
    let one = list_one rest plain (below program (codes "list") rest refl e) in
    (program, to_list one.0, one.1, ap (λ words. program ∷ codes "list" ∷ words) one.2)

as_explain : (program : Text) (rest : List Text) → AllPlain rest → fault_of flowc_command (program ∷ codes "explain" ∷ rest) ≡ [] → IsSpelled (program ∷ codes "explain" ∷ rest)
unfolding clap_on_literals
as_explain program rest plain e =
    let two = texts_two (codes "explain") rest plain (below program (codes "explain") rest refl e) in
    (program, to_explain two.0 two.1, (two.2, two.3), ap (λ words. program ∷ codes "explain" ∷ words) two.4)

not_help : (program : Text) (rest : List Text) → fault_of flowc_command (program ∷ codes "help" ∷ rest) ≡ [] → ⊥
unfolding clap_on_literals
not_help program rest e = some_kind _ _ (first_turn program (codes "help") rest e)

-- a property of the words after a name that is known
at : (P : List Text → Type 0) (program name : Text) (rest : List Text) (known : Text) → known ≡ name
    → (fault_of flowc_command (program ∷ known ∷ rest) ≡ [] → P (program ∷ known ∷ rest))
    → fault_of flowc_command (program ∷ name ∷ rest) ≡ [] → P (program ∷ name ∷ rest)
at P program name rest known is holds = subst (λ n. fault_of flowc_command (program ∷ n ∷ rest) ≡ [] → P (program ∷ n ∷ rest)) is holds

named : (program name : Text) (rest : List Text) → IsNoOption name → AllPlain rest → fault_of flowc_command (program ∷ name ∷ rest) ≡ [] → IsSpelled (program ∷ name ∷ rest)
named program name rest plain others e =
    go (same_or (codes "check") name) (same_or (codes "build") name) (same_or (codes "run") name) (same_or (codes "list") name) (same_or (codes "explain") name)
    (same_or (codes "help") name)
  where
    Is : Text → Type 0
    Is known = (known ≡ name) ⊎ (bytes_eq known name ≡ false)

    go : Is (codes "check") → Is (codes "build") → Is (codes "run") → Is (codes "list") → Is (codes "explain") → Is (codes "help") → IsSpelled (program ∷ name ∷ rest)
    go (inl is) build run list explain help = at IsSpelled program name rest _ is (as_check program rest others) e
    go (inr _) (inl is) run list explain help = at IsSpelled program name rest _ is (as_build program rest others) e
    go (inr _) (inr _) (inl is) list explain help = at IsSpelled program name rest _ is (as_run program rest others) e
    go (inr _) (inr _) (inr _) (inl is) explain help = at IsSpelled program name rest _ is (as_list program rest others) e
    go (inr _) (inr _) (inr _) (inr _) (inl is) help = at IsSpelled program name rest _ is (as_explain program rest others) e
    go (inr _) (inr _) (inr _) (inr _) (inr _) (inl is) = absurd (at (λ _. ⊥) program name rest _ is (not_help program rest) e)
    go (inr no_check) (inr no_build) (inr no_run) (inr no_list) (inr no_explain) (inr no_help) =
        let none : find (answers_to name) names ≡ None = rw (no_check, no_build, no_run, no_list, no_explain, no_help) refl in
        absurd (some_kind _ _ (sym (unknown_turn name plain none) ∙ first_turn program name rest e))

-- a command line with no option that has no fault is spelled so
pub spelled_so : (words : List Text) → HasNoOption words → fault_of flowc_command words ≡ [] → IsSpelled words
unfolding clap_on_literals
spelled_so [] plain e = absurd (some_kind _ _ e)
spelled_so (program ∷ []) plain e = absurd (some_kind _ _ e)
spelled_so (program ∷ name ∷ rest) plain e =
    let parts = or_parts _ _ plain in
    named program name rest parts.0 parts.1 e
