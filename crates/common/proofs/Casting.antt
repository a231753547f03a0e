-- A fault that a caller passes on in its own type.
use Rattle.std.proofs.Common.{◌≡◌, ℕ, ◌∙◌, refl, sym, subst}
use Rattle.std.specs.Prelude.{Result, Ok, Err, IfErr, IfOk, IsErrAnd, MatchResult}
use Rattle.common.specs.Answers.{Answers, IfRefused, IsCast}
use Rattle.common.specs.declared.fault.OrNoMemory.{OrNoMemory}
use Rattle.common.specs.declared.fault.OrNoMemory.TheVariants.{NoMemory, Refused}
use Rattle.common.specs.declared.refusal.RefusalAt.{RefusalAt}

pub refused-weaker : {R : Type 0} (P Q : R → Type 0) → ((r : R) → P r → Q r) → (fault : OrNoMemory R) → IfRefused P fault
    → IfRefused Q fault
refused-weaker P Q step NoMemory holds = tt
refused-weaker P Q step (Refused r) holds = step r holds

-- what holds of each refusal of a fault holds of the caller's
pub cast-refused : {R S : Type 0} {Becomes : R → S → Type 0} (given : OrNoMemory R) (P : R → Type 0) (Q : S → Type 0)
    → ((r : R) (s : S) → Becomes r s → P r → Q s) → (fault : OrNoMemory S) → IsCast Becomes given fault → IfRefused P given
    → IfRefused Q fault
cast-refused NoMemory P Q step fault is holds = subst (IfRefused Q) (sym is) tt
cast-refused (Refused r) P Q step fault is holds = subst (IfRefused Q) (sym is.1) (step r is.0 is.2 holds)

-- a refusal whose kind and byte are these
pub refusal-is : {K : Type 0} (refusal : RefusalAt K) (kind : K) (at : ℕ) → refusal.kind ≡ kind → refusal.at ≡ at
    → refusal ≡ record { kind = kind; at = at }
refusal-is refusal kind at of here = rw (← of, ← here) refl

-- the answer of a call whose fault is mapped: what holds of each fault of the call holds of what it becomes
pub map-answer : {T E F : Type 0} {Becomes : E → F → Type 0} (P : E → Type 0) (Q : F → Type 0)
    → ((e : E) (f : F) → Becomes e f → P e → Q f) → (call : Result T E) (mapped : Result T F)
    → MatchResult call (λ x. mapped ≡ Ok x) (λ e. IsErrAnd mapped (Becomes e)) → IfErr call P → IfErr mapped Q
map-answer P Q step (Ok x) mapped cases holds = subst (λ m. IfErr m Q) (sym cases) tt
map-answer P Q step (Err e) (Ok x) cases holds = tt
map-answer P Q step (Err e) (Err f) cases holds = step e f cases holds

-- the same where the fault is cast: what holds of each refusal of the call holds of the caller's
pub cast-answer : {T R S : Type 0} {Becomes : R → S → Type 0} (P : R → Type 0) (Q : S → Type 0)
    → ((r : R) (s : S) → Becomes r s → P r → Q s) → (call : Result T (OrNoMemory R)) (mapped : Result T (OrNoMemory S))
    → MatchResult call (λ x. mapped ≡ Ok x) (λ e. IsErrAnd mapped (IsCast Becomes e))
    → IfErr call (IfRefused P) → IfErr mapped (IfRefused Q)
cast-answer P Q step call mapped cases holds =
    map-answer (IfRefused P) (IfRefused Q) (λ e f is h. cast-refused e P Q step f is h) call mapped cases holds

-- the value of a call whose fault is mapped is the value of the call
pub mapped-ok : {T E F : Type 0} {N : E → Type 0} (call : Result T E) (found : Result T F) (x : T) (P : T → Type 0)
    → found ≡ Ok x → MatchResult call (λ y. found ≡ Ok y) N → ((fault : E) → N fault → ⊥) → IfOk call P → P x
mapped-ok (Ok y) found x P is cases none holds = subst (λ r. IfOk r P) (sym cases ∙ is) holds
mapped-ok (Err e) found x P is cases none holds = absurd (none e cases)

-- the answer of a call whose refusal becomes a fault
pub refuse-answer : {T R : Type 0} (P : T → Type 0) (Q : R → Type 0) (call : Result T R) (mapped : Result T (OrNoMemory R))
    → MatchResult call (λ x. mapped ≡ Ok x) (λ r. IsErrAnd mapped (λ fault. fault ≡ Refused r)) → MatchResult call P Q
    → Answers P Q mapped
refuse-answer P Q (Ok x) mapped cases holds = subst (Answers P Q) (sym cases) holds
refuse-answer P Q (Err r) (Ok x) cases holds = absurd cases
refuse-answer P Q (Err r) (Err fault) cases holds = subst (IfRefused Q) (sym cases) holds
