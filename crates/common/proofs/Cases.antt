-- Cases, and what is in lists.
use Rattle.std.proofs.Common.{◌≡◌, ℕ, zero, suc, ◌+◌, ◌<◌, ◌≤◌, ◌⊎◌, inl, inr, Bool, true, false, List, [], ◌∷◌, ◌++◌, Some, None, Option, length, map, take, drop, get_or, slice_get, refl, sym, ap, subst, ◌∙◌, arith}
use Rattle.std.specs.Prelude.{All, Contains, is_some, is_none}
use Rattle.std.specs.List.{AllPairs, filter}
use Rattle.std.proofs.lemmas.Bool.{cases_eq}
use Rattle.std.proofs.lemmas.Option.{get_or_from_slice_get, slice_get-get_or, slice_get_within, same_Some}
use Rattle.std.proofs.lemmas.List.{drop_more, get_or_append_left, get_or-map, length-append, length-map, map_more}
use Rattle.std.proofs.lemmas.List.Sums.{count_by-le-length, length-filter}

-- by what a test comes to
pub by_test : {P : Type 0} (test : Bool) → (test ≡ true → P) → (test ≡ false → P) → P
by_test true held fails = held refl
by_test false held fails = fails refl

-- what is below the next number is below this one, or is it
pub last_cases : (k n : ℕ) → k < n + 1 → (k < n) ⊎ (k ≡ n)
last_cases k n below = elim (cases_eq k n) [ inl same ↦ inr same | inr other ↦ inl (omega (arith, below, other)) ]

-- something stands at each place of a list
pub there_at : {X : Type 0} (xs : List X) (k : ℕ) → k < length xs → (x : X) × (slice_get xs k ≡ Some x)
there_at [] k below = absurd (omega arith)
there_at (x ∷ xs) zero below = (x, refl)
there_at (x ∷ xs) (suc k) below = there_at xs k (omega arith)

-- what is in a list is, changed, in the changed list
pub contained_map : {X Y : Type 0} (f : X → Y) (xs : List X) (x : X) → Contains xs x → Contains (map f xs) (f x)
contained_map f xs x has = (has.0, rw length-map has.1, get_or-map f xs has.0 x (f x) has.1 ∙ ap f has.2)

-- of an empty list both parts are empty
pub append_empty : {X : Type 0} (xs ys : List X) → xs ++ ys ≡ [] → (xs ≡ []) × (ys ≡ [])
append_empty [] ys e = (refl, e)
append_empty (x ∷ xs) ys e = absurd (cc)

-- what is in the changed list was changed from what is in the list
pub contained_map_only : {X Y : Type 0} (f : X → Y) (xs : List X) (y : Y) → Contains (map f xs) y → (x : X) × Contains xs x × (f x ≡ y)
contained_map_only f xs y has =
    let within : has.0 < length xs = omega (arith, length-map xs f, has.1) in
    let found = there_at xs has.0 within in
    let is : get_or xs has.0 found.0 ≡ found.0 = get_or_from_slice_get xs has.0 found.0 found.0 found.1 in
    (found.0, (has.0, within, is), ap f (sym is) ∙ (sym (get_or-map f xs has.0 found.0 y within) ∙ has.2))

-- and what stands at a place of it from what stands there
pub there_map_only : {X Y : Type 0} (f : X → Y) (xs : List X) (i : ℕ) (y : Y) → slice_get (map f xs) i ≡ Some y
    → (x : X) × (slice_get xs i ≡ Some x) × (f x ≡ y)
there_map_only f [] i y e = absurd (cc)
there_map_only f (x ∷ xs) zero y e = (x, refl, same_Some (f x) y e)
there_map_only f (x ∷ xs) (suc i) y e = there_map_only f xs i y e

-- what stands at a place of a list is in it, and what is in it stands at a place
pub contained_at : {X : Type 0} (xs : List X) (i : ℕ) (x : X) → slice_get xs i ≡ Some x → Contains xs x
contained_at xs i x e = (i, slice_get_within xs i x e, get_or_from_slice_get xs i x x e)

pub contained_place : {X : Type 0} (xs : List X) (x : X) → Contains xs x → (i : ℕ) × (slice_get xs i ≡ Some x)
contained_place xs x has = (has.0, slice_get-get_or xs has.0 x has.1 ∙ ap Some has.2)

-- the elements up to the next one, changed
pub map_next : {X Y : Type 0} (f : X → Y) (xs : List X) (i : ℕ) (x : X) → i < length xs → x ≡ get_or xs i x
    → map f (take (i + 1) xs) ≡ map f (take i xs) ++ f x ∷ []
map_next f xs i x inside is = map_more f xs i x inside ∙ ap (λ y. map f (take i xs) ++ f y ∷ []) (sym is)

-- those from the next one on
pub drop_next : {X : Type 0} (xs : List X) (i : ℕ) (x : X) → i < length xs → x ≡ get_or xs i x → drop i xs ≡ x ∷ drop (i + 1) xs
drop_next xs i x inside is = drop_more xs i x inside ∙ ap (λ y. y ∷ drop (i + 1) xs) (sym is)

-- equal lists have equal first elements, and equal rests
pub same_heads : {X : Type 0} (x y : X) (xs ys : List X) → x ∷ xs ≡ y ∷ ys → x ≡ y
same_heads x y xs ys e = cc

pub same_tails : {X : Type 0} (x y : X) (xs ys : List X) → x ∷ xs ≡ y ∷ ys → xs ≡ ys
same_tails x y xs ys e = cc

-- what holds of each element of two lists holds of each of the first
pub all_front : {X : Type 0} (P : X → Type 0) (xs ys : List X) → All P (xs ++ ys) → All P xs
all_front P xs ys all k d within =
    subst P (get_or_append_left xs ys d k within) (all k d (omega (arith, within, length-append xs ys)))

-- and what holds of each two
pub pairs_front : {X : Type 0} (R : X → X → Type 0) (xs ys : List X) → AllPairs R (xs ++ ys) → AllPairs R xs
pairs_front R xs ys all i j d first second =
    subst (λ x. R x (get_or xs j d)) (get_or_append_left xs ys d i (omega (arith, first, second)))
    (subst (R (get_or (xs ++ ys) i d)) (get_or_append_left xs ys d j second) (all i j d first (omega (arith, second, length-append xs ys))))

-- a list that was filtered is no longer than it was
pub filtered_length : {X : Type 0} (keep : X → Bool) (xs : List X) → length (filter keep xs) ≤ length xs
filtered_length keep xs = omega (arith, length-filter keep xs, count_by-le-length keep xs)

-- an option that holds something
pub some_there : {X : Type 0} (o : Option X) → is_some o ≡ true → (x : X) × (o ≡ Some x)
some_there None e = absurd (cc)
some_there (Some x) e = (x, refl)

pub none_there : {X : Type 0} (o : Option X) → is_none o ≡ true → o ≡ None
none_there None e = refl
none_there (Some x) e = absurd (cc)
