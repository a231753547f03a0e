-- What the status of a check or a build says of the texts.
use Rattle.std.proofs.Common.{◌≡◌, ◌∙◌, sym, subst, arith, refl, ℕ, List, Option, Some, None, Result, Ok, Err, OnOk, IfOk, IfErr, MatchResult}
use Rattle.std.specs.Prelude.{IfSome}
use Rattle.acceptance.specs.Accepted.{StandFor}
use Rattle.common.specs.Answers.{IfRefused}
use Rattle.common.specs.declared.fault.OrNoMemory.{OrNoMemory}
use Rattle.common.specs.declared.fault.OrNoMemory.TheVariants as or
use Rattle.checker.specs.Checked.{CheckedProgram}
use Rattle.checker.specs.Reported.{StandForNone}
use Rattle.resolved.specs.CoreOf.{program_of}
use Rattle.flowc.specs.Compiled.{AreAccepted}
use Rattle.flowc.specs.Task.{status_of_fault}
use Rattle.flowc.specs.declared.fault.PerformFault.{PerformFault}
use Rattle.flowc.specs.declared.texts.Accepted.{Accepted}
use Rattle.flowc.specs.declared.fault.PerformFault.TheVariants.{Refused, CannotWrite, NoMemory}

-- with status 0 what was promised of an `Ok` holds
pub held_at_zero : {X : Type 0} (P : Type 0) (status_of : X → ℕ) (outcome : Result X PerformFault) (status : ℕ) → OnOk outcome P
    → MatchResult outcome (λ x. status ≡ status_of x) (λ fault. status ≡ status_of_fault fault) → status ≡ 0 → P
held_at_zero P status_of (Ok x) status held is zero = held
held_at_zero P status_of (Err (Refused line)) status held is zero = absurd (let no : 1 ≡ 0 = sym is ∙ zero in omega (arith, no))
held_at_zero P status_of (Err CannotWrite) status held is zero = absurd (let no : 3 ≡ 0 = sym is ∙ zero in omega (arith, no))
held_at_zero P status_of (Err NoMemory) status held is zero = absurd (let no : 3 ≡ 0 = sym is ∙ zero in omega (arith, no))

-- with status 1 what was promised of a refusal holds, where an `Ok` gives status 0
pub refused_at_one : {X : Type 0} (P : Type 0) (status_of : X → ℕ) (outcome : Result X PerformFault) (status : ℕ)
    → IfErr outcome (λ fault. status_of_fault fault ≡ 1 → P) → IfOk outcome (λ x. status_of x ≡ 0)
    → MatchResult outcome (λ x. status ≡ status_of x) (λ fault. status ≡ status_of_fault fault) → status ≡ 1 → P
refused_at_one P status_of (Ok x) status refused zero is one = absurd (let no : 1 ≡ 0 = sym one ∙ is ∙ zero in omega (arith, no))
refused_at_one P status_of (Err fault) status refused zero is one = refused (sym is ∙ one)

pub ok_is_zero : {X : Type 0} (outcome : Result X PerformFault) → IfOk outcome (λ x. ◌≡◌ {A = ℕ} 0 0)
ok_is_zero (Ok x) = refl
ok_is_zero (Err fault) = tt

-- texts that are refused are not accepted
pub not_accepted : {R : Type 0} (h s : List ℕ) (fault : OrNoMemory R) (refusal : R) → fault ≡ or.Refused refusal
    → IfRefused (λ _. StandForNone h s) fault → ¬ AreAccepted h s
not_accepted h s fault refusal is none accepted = subst (IfRefused (λ _. StandForNone h s)) is none accepted.0 accepted.1

-- what is accepted is so under other names
pub accepted_along : (h s h' s' : List ℕ) → h ≡ h' → s ≡ s' → AreAccepted h s → AreAccepted h' s'
accepted_along h s h' s' eh es accepted =
    subst (λ (source : List ℕ). AreAccepted h' source) es (subst (λ (hierarchy : List ℕ). AreAccepted hierarchy s) eh accepted)

-- the program that is handed out is that of the texts, also under other names
pub handed_along : (h s h' s' : List ℕ) (outcome : Result Accepted PerformFault) (given : Option CheckedProgram) → h ≡ h' → s ≡ s'
    → IfOk outcome (λ accepted. StandFor h s (program_of accepted.checked.core))
    → MatchResult outcome (λ accepted. given ≡ Some accepted.checked) (λ _. given ≡ None)
    → IfSome given (λ checked. StandFor h' s' (program_of checked.core))
handed_along h s h' s' (Ok accepted) given eh es stand is = rw (is, sym eh, sym es) stand
handed_along h s h' s' (Err fault) given eh es stand is = rw is tt
