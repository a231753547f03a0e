-- Ascending lists as sets: what `ascending_set` keeps, and that a set has one ascending list.
use Rattle.std.proofs.Common.{◌≡◌, ℕ, zero, suc, drop, List, [], ◌∷◌, ◌++◌, ◌⊎◌, refl, sym, ap, ◌∙◌, subst, inl, inr, ⊎_elim}
use Rattle.std.specs.Prelude.{Contains}
use Rattle.std.specs.List.Sorted.{IsStrictlySortedBy}
use Rattle.std.specs.Ordering.{ordering_reverse}
use Rattle.std.specs.Cmp.{IsTotalOrder}
use Rattle.std.specs.declared.cmp.Ordering.{Ordering}
use Rattle.std.specs.declared.cmp.Ordering.TheVariants.{Less, Equal, Greater}
use Rattle.std.proofs.lemmas.Cmp.{tied_itself}
use Rattle.std.proofs.lemmas.List.Elements.{All-from_recursion, recursion_from_All, All-contains, Contains-append_left, Contains-append_right, Contains-append_cases}
use Rattle.std.proofs.lemmas.Map.Keys.{sorted_head, sorted_tail}
use Rattle.std.proofs.lemmas.Map.Lookups.{CmpEqualImpliesEq}
use Rattle.common.proofs.Elements.{none_in_nil, Contains-cons_cases, Contains-later, Contains-first}
use Rattle.labels.specs.Sets.{SameSet, by_order, with_element, ascending_set}
use Rattle.labels.proofs.Elements.{All-from_each}

-- ---- the first element and the others

pub sorted_nil : {X : Type 0} (cmp : X → X → Ordering) → IsStrictlySortedBy cmp []
unfolding IsStrictlySortedBy
sorted_nil cmp = tt

pub sorted_cons : {X : Type 0} (cmp : X → X → Ordering) (x : X) (xs : List X) → ((y : X) → Contains xs y → cmp x y ≡ Less) → IsStrictlySortedBy cmp xs → IsStrictlySortedBy cmp (x ∷ xs)
unfolding IsStrictlySortedBy
sorted_cons cmp x xs below sorted = (recursion_from_All (λ y. cmp x y ≡ Less) xs (All-from_each _ xs below), sorted)

pub below_later : {X : Type 0} (cmp : X → X → Ordering) (x : X) (xs : List X) → IsStrictlySortedBy cmp (x ∷ xs) → (y : X) → Contains xs y → cmp x y ≡ Less
below_later cmp x xs sorted y contained =
    All-contains (λ z. cmp x z ≡ Less) xs y (All-from_recursion (λ z. cmp x z ≡ Less) xs (sorted_head cmp x xs sorted)) contained

-- ---- the same set

pub SameSet-cons : {X : Type 0} (x : X) (xs ys : List X) → SameSet xs ys → SameSet (x ∷ xs) (x ∷ ys)
SameSet-cons x xs ys same z = (
  λ c. ⊎_elim (λ e. subst (λ w. Contains (x ∷ ys) w) e (Contains-first x ys)) (λ k. Contains-later x ys z ((same z).0 k)) (Contains-cons_cases x xs z c),
  λ c. ⊎_elim (λ e. subst (λ w. Contains (x ∷ xs) w) e (Contains-first x xs)) (λ k. Contains-later x xs z ((same z).1 k)) (Contains-cons_cases x ys z c),
)

-- ---- an order

pub less_from_greater : {X : Type 0} {cmp : X → X → Ordering} → IsTotalOrder cmp → (x y : X) → cmp x y ≡ Greater → cmp y x ≡ Less
less_from_greater order x y e = order.antisymm y x ∙ ap ordering_reverse e

pub never_below_itself : {X : Type 0} {cmp : X → X → Ordering} → IsTotalOrder cmp → (x : X) → cmp x x ≡ Less → ⊥
never_below_itself order x e = let same = tied_itself order x in absurd (cc)

-- ---- one more element

with_element-cases : {X : Type 0} (cmp : X → X → Ordering) (x y : X) (ys : List X) (P : List X → Type 0) →
    (cmp x y ≡ Less → P (x ∷ y ∷ ys)) → (cmp x y ≡ Equal → P (y ∷ ys)) → (cmp x y ≡ Greater → P (y ∷ with_element cmp x ys)) →
    P (with_element cmp x (y ∷ ys))
with_element-cases cmp x y ys P less equal greater =
    elim (cmp x y) as (λ o. cmp x y ≡ o → P (by_order o (x ∷ y ∷ ys) (y ∷ ys) (y ∷ with_element cmp x ys))) [
      | Less ↦ less
      | Equal ↦ equal
      | Greater ↦ greater
    ] refl

-- a first element is the one that is named, or one of the rest
first_or_later : {X : Type 0} (G : X → Type 0) (y : X) (ys : List X) (z : X) → Contains (y ∷ ys) z → G y → (Contains ys z → G z) → G z
first_or_later G y ys z contained here later = ⊎_elim (λ e. subst G e here) later (Contains-cons_cases y ys z contained)

pub with_element-from : {X : Type 0} (cmp : X → X → Ordering) (x : X) (ys : List X) (z : X) → Contains (with_element cmp x ys) z → (x ≡ z) ⊎ Contains ys z
with_element-from cmp x [] z contained = Contains-cons_cases x [] z contained
with_element-from cmp x (y ∷ ys) z in_list =
    with_element-cases cmp x y ys (λ l. Contains l z → (x ≡ z) ⊎ Contains (y ∷ ys) z)
    (λ e. Contains-cons_cases x (y ∷ ys) z)
    (λ e contained. inr contained)
    (λ e contained.
    first_or_later (λ w. (x ≡ w) ⊎ Contains (y ∷ ys) w) y (with_element cmp x ys) z contained
    (inr (Contains-first y ys))
    (λ later. ⊎_elim inl (λ old. inr (Contains-later y ys z old)) (with_element-from cmp x ys z later)))
    in_list

pub with_element-new : {X : Type 0} {cmp : X → X → Ordering} → CmpEqualImpliesEq cmp → (x : X) (ys : List X) → Contains (with_element cmp x ys) x
with_element-new exact x [] = Contains-first x []
with_element-new {cmp = cmp} exact x (y ∷ ys) =
    with_element-cases cmp x y ys (λ l. Contains l x)
    (λ e. Contains-first x (y ∷ ys))
    (λ e. subst (λ w. Contains (y ∷ ys) w) (sym (exact x y e)) (Contains-first y ys))
    (λ e. Contains-later y (with_element cmp x ys) x (with_element-new exact x ys))

pub with_element-old : {X : Type 0} (cmp : X → X → Ordering) (x : X) (ys : List X) (z : X) → Contains ys z → Contains (with_element cmp x ys) z
with_element-old cmp x [] z contained = absurd (none_in_nil z contained)
with_element-old cmp x (y ∷ ys) z contained =
    with_element-cases cmp x y ys (λ l. Contains l z)
    (λ e. Contains-later x (y ∷ ys) z contained)
    (λ e. contained)
    (λ e. first_or_later (λ w. Contains (y ∷ with_element cmp x ys) w) y ys z contained
    (Contains-first y (with_element cmp x ys))
    (λ later. Contains-later y (with_element cmp x ys) z (with_element-old cmp x ys z later)))

pub with_element-sorted : {X : Type 0} {cmp : X → X → Ordering} → IsTotalOrder cmp → (x : X) (ys : List X) → IsStrictlySortedBy cmp ys → IsStrictlySortedBy cmp (with_element cmp x ys)
with_element-sorted {cmp = cmp} order x [] sorted = sorted_cons cmp x [] (λ y contained. absurd (none_in_nil y contained)) sorted
with_element-sorted {cmp = cmp} order x (y ∷ ys) sorted =
    with_element-cases cmp x y ys (IsStrictlySortedBy cmp)
    (λ e. sorted_cons cmp x (y ∷ ys)
    (λ z contained. first_or_later (λ w. cmp x w ≡ Less) y ys z contained e
    (λ later. order.trans x y z e (below_later cmp y ys sorted z later)))
    sorted)
    (λ e. sorted)
    (λ e. sorted_cons cmp y (with_element cmp x ys)
    (λ z contained. ⊎_elim
    (λ same. subst (λ w. cmp y w ≡ Less) same (less_from_greater order x y e))
    (below_later cmp y ys sorted z)
    (with_element-from cmp x ys z contained))
    (with_element-sorted order x ys (sorted_tail cmp y ys sorted)))

-- ---- the ascending set of a list

pub ascending_set-sorted : {X : Type 0} {cmp : X → X → Ordering} → IsTotalOrder cmp → (xs : List X) → IsStrictlySortedBy cmp (ascending_set cmp xs)
ascending_set-sorted {cmp = cmp} order [] = sorted_nil cmp
ascending_set-sorted {cmp = cmp} order (x ∷ xs) = with_element-sorted order x (ascending_set cmp xs) (ascending_set-sorted order xs)

ascending_set-from : {X : Type 0} (cmp : X → X → Ordering) (xs : List X) (z : X) → Contains (ascending_set cmp xs) z → Contains xs z
ascending_set-from cmp [] z contained = contained
ascending_set-from cmp (x ∷ xs) z contained =
    ⊎_elim
    (λ same. subst (λ w. Contains (x ∷ xs) w) same (Contains-first x xs))
    (λ old. Contains-later x xs z (ascending_set-from cmp xs z old))
    (with_element-from cmp x (ascending_set cmp xs) z contained)

ascending_set-to : {X : Type 0} {cmp : X → X → Ordering} → CmpEqualImpliesEq cmp → (xs : List X) (z : X) → Contains xs z → Contains (ascending_set cmp xs) z
ascending_set-to exact [] z contained = contained
ascending_set-to {cmp = cmp} exact (x ∷ xs) z contained =
    first_or_later (λ w. Contains (ascending_set cmp (x ∷ xs)) w) x xs z contained
    (with_element-new exact x (ascending_set cmp xs))
    (λ later. with_element-old cmp x (ascending_set cmp xs) z (ascending_set-to exact xs z later))

pub ascending_set-SameSet : {X : Type 0} {cmp : X → X → Ordering} → CmpEqualImpliesEq cmp → (xs : List X) → SameSet (ascending_set cmp xs) xs
ascending_set-SameSet {cmp = cmp} exact xs z = (ascending_set-from cmp xs z, ascending_set-to exact xs z)

-- ---- a set has one ascending list

-- a first element is below each other element of the same set, unless it is the other list's first one too
same_first : {X : Type 0} {cmp : X → X → Ordering} → IsTotalOrder cmp → (x y : X) (xs ys : List X) →
    IsStrictlySortedBy cmp (x ∷ xs) → IsStrictlySortedBy cmp (y ∷ ys) → SameSet (x ∷ xs) (y ∷ ys) → x ≡ y
same_first {cmp = cmp} order x y xs ys left right same =
    ⊎_elim sym
    (λ x_later. ⊎_elim (λ e. e)
    (λ y_later.
    absurd (never_below_itself order x (order.trans x y x (below_later cmp x xs left y y_later) (below_later cmp y ys right x x_later))))
    (Contains-cons_cases x xs y ((same y).1 (Contains-first y ys))))
    (Contains-cons_cases y ys x ((same x).0 (Contains-first x xs)))

-- the elements after the first are the same too
later_ones : {X : Type 0} {cmp : X → X → Ordering} → IsTotalOrder cmp → (x y : X) (xs ys : List X) → x ≡ y →
    IsStrictlySortedBy cmp (x ∷ xs) → ((z : X) → Contains (x ∷ xs) z → Contains (y ∷ ys) z) → (z : X) → Contains xs z → Contains ys z
later_ones {cmp = cmp} order x y xs ys e sorted more z contained =
    ⊎_elim
    (λ same. absurd (never_below_itself order x (subst (λ w. cmp x w ≡ Less) (sym (e ∙ same)) (below_later cmp x xs sorted z contained))))
    (λ later. later)
    (Contains-cons_cases y ys z (more z (Contains-later x xs z contained)))

pub sorted_unique : {X : Type 0} {cmp : X → X → Ordering} → IsTotalOrder cmp → (xs ys : List X) →
    IsStrictlySortedBy cmp xs → IsStrictlySortedBy cmp ys → SameSet xs ys → xs ≡ ys
sorted_unique order [] [] left right same = refl
sorted_unique order [] (y ∷ ys) left right same = absurd (none_in_nil y ((same y).1 (Contains-first y ys)))
sorted_unique order (x ∷ xs) [] left right same = absurd (none_in_nil x ((same x).0 (Contains-first x xs)))
sorted_unique {cmp = cmp} order (x ∷ xs) (y ∷ ys) left right same =
    let first : x ≡ y = same_first order x y xs ys left right same in
    let rest : xs ≡ ys =
    sorted_unique order xs ys (sorted_tail cmp x xs left) (sorted_tail cmp y ys right)
    (λ z. (later_ones order x y xs ys first left (λ w. (same w).0) z, later_ones order y x ys xs (sym first) right (λ w. (same w).1) z)) in
    cc

pub SameSet-sym : {X : Type 0} (xs ys : List X) → SameSet xs ys → SameSet ys xs
SameSet-sym xs ys same z = ((same z).1, (same z).0)

pub SameSet-trans : {X : Type 0} (xs ys zs : List X) → SameSet xs ys → SameSet ys zs → SameSet xs zs
SameSet-trans xs ys zs first second z = (λ c. (second z).0 ((first z).0 c), λ c. (first z).1 ((second z).1 c))

-- an ascending list that is the same set as another list is its ascending set
pub ascending_set-unique : {X : Type 0} {cmp : X → X → Ordering} → IsTotalOrder cmp → CmpEqualImpliesEq cmp → (xs ys : List X) →
    IsStrictlySortedBy cmp ys → SameSet ys xs → ys ≡ ascending_set cmp xs
ascending_set-unique {cmp = cmp} order exact xs ys sorted same =
    sorted_unique order ys (ascending_set cmp xs) sorted (ascending_set-sorted order xs)
    (SameSet-trans ys xs (ascending_set cmp xs) same (SameSet-sym (ascending_set cmp xs) xs (ascending_set-SameSet exact xs)))

-- ---- the least element first

pub ascending_set-least : {X : Type 0} {cmp : X → X → Ordering} → IsTotalOrder cmp → CmpEqualImpliesEq cmp → (x : X) (xs all : List X) →
    ((y : X) → Contains xs y → cmp x y ≡ Less) → SameSet (x ∷ xs) all → x ∷ ascending_set cmp xs ≡ ascending_set cmp all
ascending_set-least {cmp = cmp} order exact x xs all below same =
    let kept = ascending_set-SameSet exact xs in
    ascending_set-unique order exact all (x ∷ ascending_set cmp xs)
    (sorted_cons cmp x (ascending_set cmp xs) (λ y c. below y ((kept y).0 c)) (ascending_set-sorted order xs))
    (SameSet-trans (x ∷ ascending_set cmp xs) (x ∷ xs) all (SameSet-cons x (ascending_set cmp xs) xs kept) same)

-- ---- the union of two ascending lists, from the front

pub union_of_less : {X : Type 0} {cmp : X → X → Ordering} → IsTotalOrder cmp → CmpEqualImpliesEq cmp → (x : X) (xs : List X) (y : X) (ys : List X) →
    IsStrictlySortedBy cmp (x ∷ xs) → IsStrictlySortedBy cmp (y ∷ ys) → cmp x y ≡ Less →
    x ∷ ascending_set cmp (xs ++ y ∷ ys) ≡ ascending_set cmp ((x ∷ xs) ++ y ∷ ys)
union_of_less {cmp = cmp} order exact x xs y ys left right less =
    ascending_set-least order exact x (xs ++ y ∷ ys) ((x ∷ xs) ++ y ∷ ys)
    (λ z contained. ⊎_elim (below_later cmp x xs left z)
    (λ on_right. first_or_later (λ w. cmp x w ≡ Less) y ys z on_right less
    (λ later. order.trans x y z less (below_later cmp y ys right z later)))
    (Contains-append_cases xs (y ∷ ys) z contained))
    (λ z. (λ c. c, λ c. c))

pub union_of_equal : {X : Type 0} {cmp : X → X → Ordering} → IsTotalOrder cmp → CmpEqualImpliesEq cmp → (x : X) (xs : List X) (y : X) (ys : List X) →
    IsStrictlySortedBy cmp (x ∷ xs) → IsStrictlySortedBy cmp (y ∷ ys) → cmp x y ≡ Equal →
    x ∷ ascending_set cmp (xs ++ ys) ≡ ascending_set cmp ((x ∷ xs) ++ y ∷ ys)
union_of_equal {cmp = cmp} order exact x xs y ys left right tie =
    let same : x ≡ y = exact x y tie in
    ascending_set-least order exact x (xs ++ ys) ((x ∷ xs) ++ y ∷ ys)
    (λ z contained. ⊎_elim (below_later cmp x xs left z)
    (λ on_right. subst (λ w. cmp w z ≡ Less) (sym same) (below_later cmp y ys right z on_right))
    (Contains-append_cases xs ys z contained))
    (λ z. (
      λ c. first_or_later (λ w. Contains ((x ∷ xs) ++ y ∷ ys) w) x (xs ++ ys) z c
          (Contains-first x (xs ++ y ∷ ys))
          (λ later. ⊎_elim
          (λ on_left. Contains-later x (xs ++ y ∷ ys) z (Contains-append_left xs (y ∷ ys) z on_left))
          (λ on_right. Contains-later x (xs ++ y ∷ ys) z (Contains-append_right xs (y ∷ ys) z (Contains-later y ys z on_right)))
          (Contains-append_cases xs ys z later)),
      λ c. first_or_later (λ w. Contains (x ∷ (xs ++ ys)) w) x (xs ++ y ∷ ys) z c
          (Contains-first x (xs ++ ys))
          (λ later. ⊎_elim
          (λ on_left. Contains-later x (xs ++ ys) z (Contains-append_left xs ys z on_left))
          (λ on_right. first_or_later (λ w. Contains (x ∷ (xs ++ ys)) w) y ys z on_right
          (subst (λ w. Contains (x ∷ (xs ++ ys)) w) same (Contains-first x (xs ++ ys)))
          (λ k. Contains-later x (xs ++ ys) z (Contains-append_right xs ys z k)))
          (Contains-append_cases xs (y ∷ ys) z later)),
    ))

pub union_of_greater : {X : Type 0} {cmp : X → X → Ordering} → IsTotalOrder cmp → CmpEqualImpliesEq cmp → (x : X) (xs : List X) (y : X) (ys : List X) →
    IsStrictlySortedBy cmp (x ∷ xs) → IsStrictlySortedBy cmp (y ∷ ys) → cmp x y ≡ Greater →
    y ∷ ascending_set cmp ((x ∷ xs) ++ ys) ≡ ascending_set cmp ((x ∷ xs) ++ y ∷ ys)
union_of_greater {cmp = cmp} order exact x xs y ys left right greater =
    let less : cmp y x ≡ Less = less_from_greater order x y greater in
    ascending_set-least order exact y ((x ∷ xs) ++ ys) ((x ∷ xs) ++ y ∷ ys)
    (λ z contained. ⊎_elim
    (λ on_left. first_or_later (λ w. cmp y w ≡ Less) x xs z on_left less
    (λ later. order.trans y x z less (below_later cmp x xs left z later)))
    (below_later cmp y ys right z)
    (Contains-append_cases (x ∷ xs) ys z contained))
    (λ z. (
      λ c. first_or_later (λ w. Contains ((x ∷ xs) ++ y ∷ ys) w) y ((x ∷ xs) ++ ys) z c
          (Contains-append_right (x ∷ xs) (y ∷ ys) y (Contains-first y ys))
          (λ later. ⊎_elim (Contains-append_left (x ∷ xs) (y ∷ ys) z)
          (λ on_right. Contains-append_right (x ∷ xs) (y ∷ ys) z (Contains-later y ys z on_right))
          (Contains-append_cases (x ∷ xs) ys z later)),
      λ c. ⊎_elim
          (λ on_left. Contains-later y ((x ∷ xs) ++ ys) z (Contains-append_left (x ∷ xs) ys z on_left))
          (λ on_right. first_or_later (λ w. Contains (y ∷ ((x ∷ xs) ++ ys)) w) y ys z on_right
          (Contains-first y ((x ∷ xs) ++ ys))
          (λ later. Contains-later y ((x ∷ xs) ++ ys) z (Contains-append_right (x ∷ xs) ys z later)))
          (Contains-append_cases (x ∷ xs) (y ∷ ys) z c),
    ))

-- an ascending list is its own ascending set
pub ascending_set-itself : {X : Type 0} {cmp : X → X → Ordering} → IsTotalOrder cmp → CmpEqualImpliesEq cmp → (xs : List X) →
    IsStrictlySortedBy cmp xs → ascending_set cmp xs ≡ xs
ascending_set-itself order exact xs sorted = sym (ascending_set-unique order exact xs xs sorted (λ z. (λ c. c, λ c. c)))

-- ---- what is left of an ascending list

pub sorted_drop : {X : Type 0} (cmp : X → X → Ordering) (n : ℕ) (xs : List X) → IsStrictlySortedBy cmp xs → IsStrictlySortedBy cmp (drop n xs)
sorted_drop cmp zero xs sorted = sorted
sorted_drop cmp (suc n) [] sorted = sorted
sorted_drop cmp (suc n) (x ∷ xs) sorted = sorted_drop cmp n xs (sorted_tail cmp x xs sorted)
