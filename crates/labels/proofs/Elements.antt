-- `All` and `Any` of a list, in the words of its elements.
use Rattle.std.proofs.Common.{List}
use Rattle.std.specs.Prelude.{All, Any, Contains}
use Rattle.std.proofs.lemmas.List.Elements.{Contains-get_or, All-contains}

-- what holds of each element that the list contains holds of all
pub All-from_each : {X : Type 0} (P : X → Type 0) (xs : List X) → ((x : X) → Contains xs x → P x) → All P xs
All-from_each P xs each k d in_range = each _ (Contains-get_or xs k d in_range)

pub each_from_All : {X : Type 0} (P : X → Type 0) (xs : List X) → All P xs → (x : X) → Contains xs x → P x
each_from_All P xs all x contained = All-contains P xs x all contained

-- an element of the list of which P holds
pub Any-from_some : {X : Type 0} (P : X → Type 0) (xs : List X) (x : X) → Contains xs x → P x → Any P xs
Any-from_some P xs x contained holds = (contained.0, x, contained.1, contained.2, holds)

pub Any-elim : {X : Type 0} (P : X → Type 0) (xs : List X) (G : Type 0) → Any P xs → ((x : X) → Contains xs x → P x → G) → G
Any-elim P xs G some goes = goes some.1 (some.0, some.2, some.3) some.4

-- some element of which P holds is one of which each weaker fact holds
pub Any-weaker : {X : Type 0} (P Q : X → Type 0) (xs ys : List X) → ((x : X) → Contains xs x → Contains ys x) → ((x : X) → P x → Q x) → Any P xs → Any Q ys
Any-weaker P Q xs ys more weaker some =
    Any-elim P xs (Any Q ys) some (λ x contained holds. Any-from_some Q ys x (more x contained) (weaker x holds))
