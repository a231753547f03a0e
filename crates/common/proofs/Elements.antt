-- What a list contains, by its first element and the rest.
use Rattle.std.proofs.Common.{◌≡◌, List, [], ◌∷◌, ◌⊎◌, refl, inl, inr, ⊎_elim, arith, not-suc-le-zero}
use Rattle.std.specs.Prelude.{Contains}
use Rattle.std.proofs.lemmas.List.Elements.{Contains-append_cases, Contains-append_right, Contains-push_cases}

pub none_in_nil : {X : Type 0} (x : X) → Contains [] x → ⊥
none_in_nil x h = not-suc-le-zero h.1

-- an element of a list is its first one or one of the rest
pub Contains-cons_cases : {X : Type 0} (y : X) (ys : List X) (x : X) → Contains (y ∷ ys) x → (y ≡ x) ⊎ Contains ys x
Contains-cons_cases y ys x h =
    ⊎_elim
    (λ k. ⊎_elim (λ none. absurd (none_in_nil x none)) inl (Contains-push_cases [] y x k))
    inr
    (Contains-append_cases (y ∷ []) ys x h)

pub Contains-later : {X : Type 0} (y : X) (ys : List X) (x : X) → Contains ys x → Contains (y ∷ ys) x
Contains-later y ys x h = Contains-append_right (y ∷ []) ys x h

pub Contains-first : {X : Type 0} (y : X) (ys : List X) → Contains (y ∷ ys) y
Contains-first y ys = (0, omega arith, refl)
