-- A walk along a list: along the front first, and then along the rest.
use Rattle.std.proofs.Common.{◌≡◌, List, [], ◌∷◌, ◌++◌, Result, Ok, Err, refl, ap, ◌∙◌}
use Rattle.common.specs.Results.{along, ◌>>=◌}

-- a walk over two lists is one over the first and then one over the second
pub along-append : {S X R : Type 0} (step : S → X → Result S R) (state : S) (xs ys : List X)
    → along step state (xs ++ ys) ≡ (along step state xs >>= λ next. along step next ys)
along-append step state [] ys = refl
along-append {S} {X} {R} step state (x ∷ xs) ys =
    let on : (o : Result S R) → (o >>= λ next. along step next (xs ++ ys)) ≡ ((o >>= λ next. along step next xs) >>= λ next. along step next ys) =
    λ o. elim o as (λ p. (p >>= λ next. along step next (xs ++ ys)) ≡ ((p >>= λ next. along step next xs) >>= λ next. along step next ys)) [
      | Ok next ↦ along-append step next xs ys
      | Err refusal ↦ refl
    ] in
    on (step state x)

-- one element more
pub along-push : {S X R : Type 0} (step : S → X → Result S R) (state : S) (xs : List X) (x : X) (end after : S)
    → along step state xs ≡ Ok end → step end x ≡ Ok after → along step state (xs ++ x ∷ []) ≡ Ok after
along-push step state xs x end after walked goes =
    along-append step state xs (x ∷ []) ∙ ap (λ o. o >>= λ next. along step next (x ∷ [])) walked ∙ ap (λ o. o >>= λ next. along step next []) goes

-- no element more, whatever comes after it
pub along-stop : {S X R : Type 0} (step : S → X → Result S R) (state : S) (xs rest : List X) (x : X) (end : S) (refusal : R)
    → along step state xs ≡ Ok end → step end x ≡ Err refusal → along step state (xs ++ x ∷ rest) ≡ Err refusal
along-stop step state xs rest x end refusal walked stops =
    along-append step state xs (x ∷ rest) ∙ ap (λ o. o >>= λ next. along step next (x ∷ rest)) walked ∙ ap (λ o. o >>= λ next. along step next rest) stops
