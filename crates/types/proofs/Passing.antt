-- What holds of whatever a finding holds.
use Rattle.std.proofs.Common.{◌≡◌, refl, ℕ, Bool, true, false, Ok, Err}
use Rattle.std.specs.Prelude.{IfOk, IfSome, Option, None, Some}
use Rattle.types.specs.declared.fault.TypeRefusalKind.{TypeRefusalKind}
use Rattle.types.specs.Finding.{Finding, found_or, give_if, require}
use Rattle.types.specs.Views.{and_then}

pub then_finds : {A B : Type 0} (looked : Finding A) (next : A → Finding B) (P : A → Type 0) (Q : B → Type 0)
    → IfOk looked P → ((x : A) → P x → IfOk (next x) Q) → IfOk (and_then looked next) Q
then_finds (Ok x) next P Q h further = further x h
then_finds (Err fault) next P Q h further = tt

pub if_finds : {A : Type 0} (test : Bool) (x : A) (refusal : TypeRefusalKind) (at : ℕ) (Q : A → Type 0) → (test ≡ true → Q x)
    → IfOk (give_if test x refusal at) Q
if_finds true x refusal at Q h = h refl
if_finds false x refusal at Q h = tt

pub found_finds : {A : Type 0} (refusal : TypeRefusalKind) (at : ℕ) (found : Option A) (P : A → Type 0) → IfSome found P → IfOk (found_or refusal at found) P
found_finds refusal at None P h = tt
found_finds refusal at (Some x) P h = h

pub require_finds : (test : Bool) (refusal : TypeRefusalKind) (at : ℕ) → IfOk (require test refusal at) (λ one. test ≡ true)
require_finds true refusal at = refl
require_finds false refusal at = tt

pub finds_for_all : {A X : Type 0} (looked : Finding A) (P : X → A → Type 0) → ((x : X) → IfOk looked (P x))
    → IfOk looked (λ a. (x : X) → P x a)
finds_for_all (Ok a) P h = h
finds_for_all (Err fault) P h = tt

pub any_finds : {A : Type 0} (looked : Finding A) → IfOk looked (λ one. Unit {0})
any_finds (Ok x) = tt
any_finds (Err fault) = tt
