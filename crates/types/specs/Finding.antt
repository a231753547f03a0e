-- What looking at a part of a program comes to: something that was found, or the first fault.
-- Source: our own, the results of a computation that may fail, in the usual sense.
use Rattle.std.specs.Prelude.{◌≡◌, ℕ, List, [], ◌∷◌, ◌++◌, Bool, Option, None, Some, ok_or, Result, Ok, Err, if◌then◌else◌}
use Rattle.common.specs.Results.{along, ◌>>=◌}
use Rattle.types.specs.declared.fault.TypeRefusalKind.{TypeRefusalKind}
use Rattle.common.specs.declared.refusal.RefusalAt.{RefusalAt}

abbrev pub Finding : Type 0 → Type 0
Finding A = Result A (RefusalAt TypeRefusalKind)

-- something else is given, made of what is found
infixl 5 ◌gives◌
abbrev pub ◌gives◌ : {A B : Type 0} → Finding A → (A → B) → Finding B
finding gives f = finding >>= λ x. Ok (f x)

-- what is there, else a refusal
abbrev pub found_or : {A : Type 0} → TypeRefusalKind → (at : ℕ) → Option A → Finding A
found_or kind at found = ok_or found (record { kind = kind; at = at })

-- a thing where a test holds, else a refusal
abbrev pub give_if : {A : Type 0} → Bool → A → TypeRefusalKind → (at : ℕ) → Finding A
give_if test x kind at = if test then Ok x else Err (record { kind = kind; at = at })

-- nothing but that a test holds
abbrev pub require : Bool → TypeRefusalKind → (at : ℕ) → Finding (Unit {0})
require test kind at = give_if test tt kind at

-- what is found of a thing that may be left out
unfoldable pub of_option : {X A : Type 0} → (X → Finding A) → Option X → Finding (Option A)
of_option look None = Ok None
of_option look (Some x) = look x gives Some

-- what is found of each element, in their order
abbrev pub of_each : {X A : Type 0} → (X → Finding A) → List X → Finding (List A)
of_each look xs = along (λ found x. look x gives λ made. found ++ made ∷ []) [] xs

-- ---- parts, by which code and proofs speak of them

abbrev pub give : {A : Type 0} → A → Finding A
give x = Ok x

abbrev pub refuse : {A : Type 0} → TypeRefusalKind → (at : ℕ) → Finding A
refuse kind at = Err (record { kind = kind; at = at })

-- the refusal is what looking comes to
abbrev pub IsRefusalOf : {A : Type 0} → Finding A → RefusalAt TypeRefusalKind → Type 0
IsRefusalOf finding refusal = finding ≡ Err refusal

-- what is found so far, and what is found of one element more
abbrev pub put_last : {X A : Type 0} → (X → Finding A) → List A → X → Finding (List A)
put_last look found x = look x gives λ made. found ++ made ∷ []
