-- What looking at one thing after another comes to: what is found at the end, or the first refusal.
-- Source: our own, the results of a computation that may fail, in the usual sense.
use Rattle.std.specs.Prelude.{List, [], ◌∷◌, Result, Ok, Err}

-- the first, and then the second with what the first found
infixl 10 ◌>>=◌
abbrev pub ◌>>=◌ : {A B R : Type 0} → Result A R → (A → Result B R) → Result B R
(Ok x) >>= next = next x
(Err refusal) >>= next = Err refusal

-- from state to state along a list
abbrev pub along : {S X R : Type 0} → (S → X → Result S R) → S → List X → Result S R
along step s [] = Ok s
along step s (x ∷ xs) = step s x >>= λ next. along step next xs
