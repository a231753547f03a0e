-- The task that a plain request is taken for is the one that is asked for.
use Rattle.std.proofs.Common.{◌≡◌, ◌≢◌, ◌∙◌, ◌++◌, ◌≤◌, ℕ, List, [], ◌∷◌, Option, Some, None, Result, Ok, Err, IfErr, IfOk, codes, refl, sym, ap, ap₂, subst, false, true≢false}
use Rattle.std.specs.Prelude.{IfSome, unwrap_or}
use Rattle.std.specs.Str.{bytes_eq}
use Rattle.std.proofs.lemmas.Slice.Eq.{bytes_eq-Decides}
use Rattle.std.specs.String.{string_bytes}
use Rattle.std.proofs.lemmas.Option.{same_Some}
use Rattle.clap.specs.Words.{Row, Text, fault_of, first_of, subcommand_of}
use Rattle.command_line.specs.Command.{flowc_command}
use Rattle.command_line.specs.Task.{AsksFor, IsTaskOf, steps_in}
use Rattle.command_line.specs.Request.{Grants, build, check, explain, list, run, HasNoOption, IsPlainRequest, IsSpelling, Request, spelled, to_build, to_check, to_explain, to_list, to_run}
use Rattle.command_line.specs.declared.request.Task.{Task}
use Rattle.command_line.specs.declared.request.Task.TheVariants.{Check, Build, Run, Explain, List as ListModule}
use Rattle.command_line.specs.declared.request.TaskRefusal.{TaskRefusal}
use Rattle.common.specs.Answers.{Answers, IfRefused}
use Rattle.common.specs.declared.fault.OrNoMemory.{OrNoMemory}
use Rattle.common.proofs.Casting.{refused-weaker}
use Rattle.command_line.proofs.Only.{spelled_so}
use Rattle.command_line.proofs.Plain.{decimal_read, met_by, observer_rows, row, steps_rows, under_rows, request_taken}

abbrev run_rows : Text → Text → Option Text → Option Text → Option ℕ → List Row
run_rows file world under observer steps =
    row (codes "MODULE") file ∷ row (codes "WORLD") world ∷ (under_rows under ++ (observer_rows observer ++ steps_rows steps))

under_found : (file world : Text) (under observer : Option Text) (steps : Option ℕ) → first_of (codes "under") (run_rows file world under observer steps) ≡ under
under_found file world None None None = refl
under_found file world None None (Some steps) = refl
under_found file world None (Some name) None = refl
under_found file world None (Some name) (Some steps) = refl
under_found file world (Some path) None None = refl
under_found file world (Some path) None (Some steps) = refl
under_found file world (Some path) (Some name) None = refl
under_found file world (Some path) (Some name) (Some steps) = refl

observer_found : (file world : Text) (under observer : Option Text) (steps : Option ℕ) → first_of (codes "observer") (run_rows file world under observer steps) ≡ observer
observer_found file world None None None = refl
observer_found file world None None (Some steps) = refl
observer_found file world None (Some name) None = refl
observer_found file world None (Some name) (Some steps) = refl
observer_found file world (Some path) None None = refl
observer_found file world (Some path) None (Some steps) = refl
observer_found file world (Some path) (Some name) None = refl
observer_found file world (Some path) (Some name) (Some steps) = refl

steps_found : (file world : Text) (under observer : Option Text) (steps : Option ℕ) → IfSome steps (λ n. n ≤ 1000000000000)
    → steps_in (run_rows file world under observer steps) ≡ unwrap_or steps 1000000
steps_found file world None None None most = refl
steps_found file world None None (Some steps) most = decimal_read steps most
steps_found file world None (Some name) None most = refl
steps_found file world None (Some name) (Some steps) most = decimal_read steps most
steps_found file world (Some path) None None most = refl
steps_found file world (Some path) None (Some steps) most = decimal_read steps most
steps_found file world (Some path) (Some name) None most = refl
steps_found file world (Some path) (Some name) (Some steps) most = decimal_read steps most

-- two names that are not the same
other_name : {X : Type 0} (a b : Text) → bytes_eq a b ≡ false → a ≡ b → X
other_name a b differ same = absurd (true≢false (sym ((bytes_eq-Decides a b).1 same) ∙ differ))

grants : (request : Request) (task : Task) → IsPlainRequest request → AsksFor (met_by request).0 (met_by request).1 task → Grants request task
grants (to_check hierarchy source) (Check h s) plain asks = check h s (ap₂ to_check (same_Some _ _ asks.1) (same_Some _ _ asks.2)) refl
grants (to_check hierarchy source) (Build h s o) plain asks = other_name _ _ refl asks.0
grants (to_check hierarchy source) (Run f w u o n) plain asks = other_name _ _ refl asks.0
grants (to_check hierarchy source) (ListModule f) plain asks = other_name _ _ refl asks.0
grants (to_check hierarchy source) (Explain h s) plain asks = other_name _ _ refl asks.0
grants (to_build hierarchy source out) (Check h s) plain asks = other_name _ _ refl asks.0
grants (to_build hierarchy source out) (Build h s o) plain asks = build h s o (rw (same_Some _ _ asks.1, same_Some _ _ asks.2, same_Some _ _ asks.3) refl) refl
grants (to_build hierarchy source out) (Run f w u o n) plain asks = other_name _ _ refl asks.0
grants (to_build hierarchy source out) (ListModule f) plain asks = other_name _ _ refl asks.0
grants (to_build hierarchy source out) (Explain h s) plain asks = other_name _ _ refl asks.0
grants (to_run file world under observer steps) (Check h s) plain asks = other_name _ _ refl asks.0
grants (to_run file world under observer steps) (Build h s o) plain asks = other_name _ _ refl asks.0
grants (to_run file world under observer steps) (Run f w u o n) plain asks =
    run f w u o steps
    (ap₂ (λ code text. to_run code text under observer steps) (same_Some _ _ asks.1) (same_Some _ _ asks.2)
    ∙ ap₂ (λ path name. to_run (string_bytes f) (string_bytes w) path name steps) (sym (asks.3 ∙ under_found file world under observer steps))
    (sym (asks.4 ∙ observer_found file world under observer steps)))
    (ap (Run f w u o) (asks.5 ∙ steps_found file world under observer steps plain.4))
grants (to_run file world under observer steps) (ListModule f) plain asks = other_name _ _ refl asks.0
grants (to_run file world under observer steps) (Explain h s) plain asks = other_name _ _ refl asks.0
grants (to_list file) (Check h s) plain asks = other_name _ _ refl asks.0
grants (to_list file) (Build h s o) plain asks = other_name _ _ refl asks.0
grants (to_list file) (Run f w u o n) plain asks = other_name _ _ refl asks.0
grants (to_list file) (ListModule f) plain asks = list f (ap to_list (same_Some _ _ asks.1)) refl
grants (to_list file) (Explain h s) plain asks = other_name _ _ refl asks.0
grants (to_explain hierarchy source) (Check h s) plain asks = other_name _ _ refl asks.0
grants (to_explain hierarchy source) (Build h s o) plain asks = other_name _ _ refl asks.0
grants (to_explain hierarchy source) (Run f w u o n) plain asks = other_name _ _ refl asks.0
grants (to_explain hierarchy source) (ListModule f) plain asks = other_name _ _ refl asks.0
grants (to_explain hierarchy source) (Explain h s) plain asks = explain h s (ap₂ to_explain (same_Some _ _ asks.1) (same_Some _ _ asks.2)) refl

-- what is answered to the words of a plain request
pub request_granted : (r : Result Task (OrNoMemory TaskRefusal)) (words : List Text) → IfOk r (IsTaskOf (subcommand_of flowc_command words))
    → IfErr r (IfRefused (λ _. fault_of flowc_command words ≢ []))
    → (program : Text) (request : Request) → IsPlainRequest request → words ≡ program ∷ spelled request → Answers (Grants request) (λ _. ⊥) r
request_granted (Ok task) words matched rejected program request plain is =
    let meets = ap (subcommand_of flowc_command) is ∙ (request_taken program request plain).meets in
    grants request task plain (subst (λ met. IsTaskOf met task) meets matched)
request_granted (Err fault) words matched rejected program request plain is =
    let passes = ap (fault_of flowc_command) is ∙ (request_taken program request plain).passes in
    refused-weaker _ _ (λ _ differ. differ passes) fault rejected

-- what is taken of the words, where none looks like an option
pub only_granted : (r : Result Task (OrNoMemory TaskRefusal)) (words : List Text) → IfOk r (IsTaskOf (subcommand_of flowc_command words)) → IfOk r (λ _. fault_of flowc_command words ≡ [])
    → HasNoOption words → IfOk r (IsSpelling words)
only_granted (Err fault) words matched passed plain = tt
only_granted (Ok task) words matched passed plain =
    let so = spelled_so words plain passed in
    let meets = ap (subcommand_of flowc_command) so.3 ∙ (request_taken so.0 so.1 so.2).meets in
    (so.0, so.1, so.3, grants so.1 task so.2 (subst (λ met. IsTaskOf met task) meets matched))
