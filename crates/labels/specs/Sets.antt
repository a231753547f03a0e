-- Sets kept as lists: when two lists are the same set, and the one list of a set's elements in ascending order.
-- Source: our own.
use Rattle.std.specs.Prelude.{List, [], ◌∷◌, ◌↔◌, Contains}
use Rattle.std.specs.declared.cmp.Ordering.{Ordering}
use Rattle.std.specs.declared.cmp.Ordering.TheVariants.{Less, Equal, Greater}

-- two lists are the same set: each element of either is one of the other
abbrev pub SameSet : {X : Type 0} → List X → List X → Type 0
SameSet {X} xs ys = (x : X) → Contains xs x ↔ Contains ys x

-- one of three lists, by how two elements compare
abbrev pub by_order : {X : Type 0} → Ordering → List X → List X → List X → List X
by_order Less less equal greater = less
by_order Equal less equal greater = equal
by_order Greater less equal greater = greater

-- an ascending list with one more element in its place, unless it is there
abbrev pub with_element : {X : Type 0} → (X → X → Ordering) → X → List X → List X
with_element cmp x [] = x ∷ []
with_element cmp x (y ∷ ys) = by_order (cmp x y) (x ∷ y ∷ ys) (y ∷ ys) (y ∷ with_element cmp x ys)

-- the elements of a list, in ascending order and each once
abbrev pub ascending_set : {X : Type 0} → (X → X → Ordering) → List X → List X
ascending_set cmp [] = []
ascending_set cmp (x ∷ xs) = with_element cmp x (ascending_set cmp xs)
