-- Lists that fit a format element by element: each element after those before it.
use Rattle.std.proofs.Common.{◌≡◌, ℕ, zero, suc, ◌+◌, ◌-◌, ◌<◌, ◌≤◌, Bool, true, false, List, [], ◌∷◌, ◌++◌, length, map, take, get_or, Option, Some, refl, sym, ap, ◌∙◌, subst, append_assoc, length-append, arith, sum_by}
use Rattle.std.specs.List.{list_all}
use Rattle.std.specs.Prelude.{All, bytes_eq, slice_get}
use Rattle.std.specs.List.Sorted.{IsStrictlySortedBy}
use Rattle.std.specs.Ordering.{is_lt}
use Rattle.std.specs.declared.cmp.Ordering.{Ordering}
use Rattle.std.specs.declared.cmp.Ordering.TheVariants.{Less}
use Rattle.std.proofs.lemmas.Bool.{false_from_ne_true, and_parts}
use Rattle.std.proofs.lemmas.List.{get_or_append_left, get_or-append_right, map-append}
use Rattle.std.proofs.lemmas.List.Sums.{sum_by-append, sum_by-cons}
use Rattle.std.proofs.lemmas.List.Folds.{list_any_none}
use Rattle.std.proofs.lemmas.Map.Keys.{Less-from_sorted}
use Rattle.std.specs.Option.{option_map_or}
use Rattle.std.proofs.lemmas.Option.{slice_get-get_or}
use Rattle.std.proofs.lemmas.Slice.Eq.{bytes_eq-Decides}
use Rattle.principals.specs.ActsFor.{AllDifferent}
use Rattle.modules.specs.ByteFormat.{FitEach}
use Rattle.modules.specs.Format.{is_above, is_among}

each_from : {A : Type 0} (P : List A → A → Type 0) (before xs : List A) → ((front : List A) (x : A) (rest : List A) → before ++ xs ≡ front ++ x ∷ rest → P front x) → FitEach P before xs
each_from P before [] h = tt
each_from P before (x ∷ xs) h =
    (h before x xs refl, each_from P (before ++ x ∷ []) xs (λ front y rest e. h front y rest (sym (append_assoc before (x ∷ []) xs) ∙ e)))

-- what holds of each element after the front before it
pub FitEach-from_fronts : {A : Type 0} (P : List A → A → Type 0) (xs : List A) → ((front : List A) (x : A) (rest : List A) → xs ≡ front ++ x ∷ rest → P front x) → FitEach P [] xs
FitEach-from_fronts P xs h = each_from P [] xs h

module _ {A : Type 0} (front : List A) (x : A) (rest : List A) where
  at_seam : (d : A) → get_or (front ++ x ∷ rest) (length front) d ≡ x
  at_seam d =
      let none : length front - length front ≡ 0 = omega arith in
      get_or-append_right front (x ∷ rest) (length front) (length front) d refl (omega arith) ∙ ap (λ k. get_or (x ∷ rest) k d) none

  within_seam : length front < length (front ++ x ∷ rest)
  within_seam = omega (arith, length-append front (x ∷ rest))

  -- what holds of each element holds of the one after the front
  pub All-at_seam : (P : A → Type 0) → All P (front ++ x ∷ rest) → P x
  All-at_seam P all = subst P (at_seam x) (all (length front) x within_seam)

-- a name is not among those before it, where all are different
pub not_among_front : (front : List (List ℕ)) (x : List ℕ) (rest : List (List ℕ)) → AllDifferent (front ++ x ∷ rest) → is_among front x ≡ false
not_among_front front x rest different =
    list_any_none (λ other. bytes_eq other x) front (λ k d lt. false_from_ne_true (bytes_eq (get_or front k d) x) (λ e.
    different k (length front) d lt (within_seam front x rest)
    (get_or_append_left front (x ∷ rest) d k lt ∙ (bytes_eq-Decides (get_or front k d) x).0 e ∙ sym (at_seam front x rest d))))

-- an element is above the last before it, where all ascend
above_front : {A : Type 0} (cmp : A → A → Ordering) (front : List A) (x : A) (rest : List A) → IsStrictlySortedBy cmp (front ++ x ∷ rest) → (k : ℕ) (d : A) → suc k ≡ length front → is_above cmp front x ≡ true
above_front {A} cmp front x rest sorted k d e =
    let last : slice_get front (length front - 1) ≡ Some (get_or front k d) = ap (slice_get front) (omega (arith, e)) ∙ slice_get-get_or front k d (omega (arith, e)) in
    let below : cmp (get_or (front ++ x ∷ rest) k d) (get_or (front ++ x ∷ rest) (length front) d) ≡ Less = Less-from_sorted cmp (front ++ x ∷ rest) k (length front) d sorted (omega (arith, e)) (within_seam front x rest) in
    let here : get_or (front ++ x ∷ rest) k d ≡ get_or front k d = get_or_append_left front (x ∷ rest) d k (omega (arith, e)) in
    ap (λ (o : Option A). option_map_or (λ y. is_lt (cmp y x)) o true) last
    ∙ ap is_lt ((λ i. cmp (sym here i) (sym (at_seam front x rest d) i)) ∙ below)

pub above_from_sorted : {A : Type 0} (cmp : A → A → Ordering) (front : List A) (x : A) (rest : List A) → IsStrictlySortedBy cmp (front ++ x ∷ rest) → is_above cmp front x ≡ true
above_from_sorted cmp [] x rest sorted = refl
above_from_sorted cmp (y ∷ ys) x rest sorted = above_front cmp (y ∷ ys) x rest sorted (length ys) y (omega arith)

-- and of each element that a function makes, after those made of the front before it
made_from : {A B : Type 0} (P : List B → B → Type 0) (f : A → B) (before xs : List A) → ((front : List A) (x : A) (rest : List A) → before ++ xs ≡ front ++ x ∷ rest → P (map f front) (f x)) → FitEach P (map f before) (map f xs)
made_from P f before [] h = tt
made_from P f before (x ∷ xs) h = (
  h before x xs refl,
  subst (λ made. FitEach P made (map f xs)) (map-append f before (x ∷ [])) (made_from P f (before ++ x ∷ []) xs (λ front y rest e. h front y rest (sym (append_assoc before (x ∷ []) xs) ∙ e))),
)

pub FitEach-made : {A B : Type 0} (P : List B → B → Type 0) (f : A → B) (xs : List A) → ((front : List A) (x : A) (rest : List A) → xs ≡ front ++ x ∷ rest → P (map f front) (f x)) → FitEach P [] (map f xs)
FitEach-made P f xs h = made_from P f [] xs h

-- a test that all elements pass
pub passes_at_seam : {A : Type 0} (test : A → Bool) (front : List A) (x : A) (rest : List A) → list_all test (front ++ x ∷ rest) ≡ true → test x ≡ true
passes_at_seam test [] x rest h = (and_parts (test x) _ h).0
passes_at_seam test (y ∷ front) x rest h = passes_at_seam test front x rest (and_parts (test y) _ h).1

-- a test that the first elements pass, where the front is shorter than these
pub passes_among_first : {A : Type 0} (test : A → Bool) (n : ℕ) (front : List A) (x : A) (rest : List A) → length front < n → list_all test (take n (front ++ x ∷ rest)) ≡ true → test x ≡ true
passes_among_first test zero front x rest below h = absurd (omega (arith, below))
passes_among_first test (suc n) [] x rest below h = (and_parts (test x) _ h).0
passes_among_first test (suc n) (y ∷ front) x rest below h = passes_among_first test n front x rest (omega (arith, below)) (and_parts (test y) _ h).1

-- a sum over all is at least that over the front with the term after it
pub sum_at_seam : {A : Type 0} (f : A → ℕ) (front : List A) (x : A) (rest : List A) → sum_by f front + f x ≤ sum_by f (front ++ x ∷ rest)
sum_at_seam f front x rest = omega (arith, sum_by-append f front (x ∷ rest), sum_by-cons f x rest)
