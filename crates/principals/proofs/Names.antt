-- Names and their numbers.
use Rattle.std.proofs.Common.{◌≡◌, ◌≢◌, ◌↔◌, ◌⊎◌, ℕ, ◌+◌, ◌<◌, ◌≤◌, Bool, true, false, not, cond, ltb, List, [], ◌∷◌, map, length, get_or, take, Option, None, Some, String, Global, refl, sym, ap, ◌∙◌, subst, ⊎_elim, inl, inr, arith, lt-ltb, length-take-le, get_or-take}
use Rattle.std.specs.Prelude.{Contains, slice_get, position, bytes_eq, string_bytes}
use Rattle.std.specs.List.{AllZip, list_any, prefix_len, position_or_len}
use Rattle.std.specs.String.{string_eq}
use Rattle.std.proofs.lemmas.Bool.{cases_order, false_from_ne_true, cond-true, or_cases, or_left, or_right, false≢true}
use Rattle.std.proofs.lemmas.List.{length-map, get_or-map}
use Rattle.std.proofs.lemmas.List.Folds.{list_any_none}
use Rattle.std.proofs.lemmas.List.Quantifiers.{position-Some}
use Rattle.std.proofs.lemmas.List.Sums.{position_or_len_is}
use Rattle.std.proofs.lemmas.Option.{none-some, slice_get_within, slice_get-get_or, get_or_from_slice_get}
use Rattle.std.proofs.lemmas.Slice.Eq.{bytes_eq-Decides}
use Rattle.common.proofs.Cases.{contained_at, contained_place}
use Rattle.principals.specs.ActsFor.{AllDifferent}
use Rattle.common.proofs.Elements.{none_in_nil, Contains-cons_cases, Contains-first, Contains-later}

-- ---- names that are all different

-- no two numbers have one name
pub one_number : (names : List (List ℕ)) → AllDifferent names → (m n : ℕ) (name : List ℕ) → slice_get names m ≡ Some name → slice_get names n ≡ Some name → m ≡ n
one_number names different m n name h k =
    let at_m : get_or names m name ≡ name = get_or_from_slice_get names m name name h in
    let at_n : get_or names n name ≡ name = get_or_from_slice_get names n name name k in
    ⊎_elim
    (λ e. e)
    (λ apart. ⊎_elim
    (λ l. absurd (different m n name l (slice_get_within names n name k) (at_m ∙ sym at_n)))
    (λ l. absurd (different n m name l (slice_get_within names m name h) (at_n ∙ sym at_m)))
    apart)
    (cases_order m n)

different_bytes : (a b : List ℕ) → a ≢ b → bytes_eq a b ≡ false
different_bytes a b h = false_from_ne_true (bytes_eq a b) (λ e. h ((bytes_eq-Decides a b).0 e))

-- ---- the number of a name

pub position_has_name : (names : List (List ℕ)) (name : List ℕ) (n : ℕ) → position (bytes_eq name) names ≡ Some n → slice_get names n ≡ Some name
position_has_name names name n h =
    let at = position-Some (bytes_eq name) names n name h in
    slice_get-get_or names n name at.0 ∙ ap Some (sym ((bytes_eq-Decides name (get_or names n name)).0 at.1))

pub position_of_name : (names : List (List ℕ)) → AllDifferent names → (name : List ℕ) (n : ℕ) → slice_get names n ≡ Some name → position (bytes_eq name) names ≡ Some n
position_of_name names different name n h =
    let within : n < length names = slice_get_within names n name h in
    let at : get_or names n name ≡ name = get_or_from_slice_get names n name name h in
    let before : (k : ℕ) → k < n → bytes_eq name (get_or names k name) ≡ false =
    λ k l. different_bytes name (get_or names k name) (λ e. different k n name l within (sym e ∙ sym at)) in
    let first : position_or_len (bytes_eq name) names ≡ n =
    position_or_len_is (bytes_eq name) names n name (omega arith) before (λ _. (bytes_eq-Decides name (get_or names n name)).1 (sym at)) in
    ap (λ x. cond (ltb x (length names)) (Some x) None) first ∙ cond-true (ltb n (length names)) (Some n) None (lt-ltb n (length names) within)

pub number_of_iff : (names : List (List ℕ)) → AllDifferent names → (name : List ℕ) (r : Option ℕ) → r ≡ position (bytes_eq name) names →
    (n : ℕ) → (r ≡ Some n) ↔ (slice_get names n ≡ Some name)
number_of_iff names different name r e n =
    (λ h. position_has_name names name n (sym e ∙ h), λ h. e ∙ position_of_name names different name n h)

-- what is found, or nothing
option_cases : {X : Type 0} (o : Option X) → (o ≡ None) ⊎ ((x : X) × (o ≡ Some x))
option_cases None = inl refl
option_cases (Some x) = inr (x, refl)

-- a name that is not there has no number
pub no_number : (names : List (List ℕ)) (name : List ℕ) → (Contains names name → ⊥) → position (bytes_eq name) names ≡ None
no_number names name new =
    ⊎_elim
    (λ none. none)
    (λ some. absurd (new (contained_at names some.0 name (position_has_name names name some.0 some.1))))
    (option_cases (position (bytes_eq name) names))

pub no_number_iff : (names : List (List ℕ)) → AllDifferent names → (name : List ℕ) (r : Option ℕ) → r ≡ position (bytes_eq name) names →
    (r ≡ None) ↔ (¬ Contains names name)
no_number_iff names different name r e = (
  λ h c.
      let n = contained_place names name c in
      none-some n.0 (sym h ∙ e ∙ position_of_name names different name n.0 n.1),
  λ h. e ∙ no_number names name h,
)

-- ---- names that are texts

module _ {X : Type 0} (bytes : X → List ℕ) (p : List ℕ → Bool) where
  prefix_len-map : (xs : List X) → prefix_len (λ x. not (p x)) (map bytes xs) ≡ prefix_len (λ x. not (p (bytes x))) xs
  prefix_len-map [] = refl
  prefix_len-map (x ∷ xs) = ap (λ n. cond (not (p (bytes x))) (1 + n) 0) (prefix_len-map xs)

  pub position-map : (xs : List X) → position p (map bytes xs) ≡ position (λ x. p (bytes x)) xs
  position-map xs =
      let e : position_or_len p (map bytes xs) ≡ position_or_len (λ x. p (bytes x)) xs = prefix_len-map xs in
      let l : length (map bytes xs) ≡ length xs = length-map xs bytes in
      λ i. cond (ltb (e i) (l i)) (Some (e i)) None

-- a text is not among those before it, where all are different
pub new_name : (names : List (String Global)) (n : ℕ) (d : String Global) → AllDifferent (map (λ name. string_bytes name) names) → n < length names →
    list_any (string_eq (get_or names n d)) (take n names) ≡ false
new_name names n d different within =
    let bytes : String Global → List ℕ = λ name. string_bytes name in
    let long : n < length (map bytes names) = omega (arith, length-map names bytes) in
    let short : n ≤ length names = omega arith in
    let front : length (take n names) ≡ n = length-take-le n names short in
    list_any_none (string_eq (get_or names n d)) (take n names) (λ k e h.
    let l : k < n = omega arith in
    let inside : k < length names = omega arith in
    let at_k : get_or (map bytes names) k [] ≡ bytes (get_or names k e) = get_or-map bytes names k e [] inside in
    let at_n : get_or (map bytes names) n [] ≡ bytes (get_or names n d) = get_or-map bytes names n d [] within in
    let same : get_or (take n names) k e ≡ get_or names k e = get_or-take n names k e l in
    ap (λ x. string_eq (get_or names n d) x) same
    ∙ different_bytes (bytes (get_or names n d)) (bytes (get_or names k e)) (λ q. different k n [] l long (at_k ∙ sym q ∙ sym at_n)))

-- lists that agree item by item in their bytes
pub same_bytes : {X : Type 0} (bytes : X → List ℕ) (xs ys : List X) → AllZip (λ x y. bytes y ≡ bytes x) xs ys → map bytes ys ≡ map bytes xs
same_bytes bytes [] [] h = refl
same_bytes bytes [] (y ∷ ys) h = absurd h
same_bytes bytes (x ∷ xs) [] h = absurd h
same_bytes bytes (x ∷ xs) (y ∷ ys) h = λ i. h.0 i ∷ same_bytes bytes xs ys h.1 i

-- the bytes at a place are those of the text there
pub bytes_at : {X : Type 0} (bytes : X → List ℕ) (xs : List X) (k : ℕ) (d : X) (name : List ℕ) → slice_get (map bytes xs) k ≡ Some name →
    (k < length xs) × (name ≡ bytes (get_or xs k d))
bytes_at bytes xs k d name h =
    let within : k < length (map bytes xs) = slice_get_within (map bytes xs) k name h in
    let inside : k < length xs = omega (arith, length-map xs bytes) in
    (inside, sym (get_or_from_slice_get (map bytes xs) k name name h) ∙ get_or-map bytes xs k d name inside)

-- a name is found among texts exactly where the list of their bytes contains it
pub listed_iff : {X : Type 0} (bytes : X → List ℕ) (xs : List X) (name : List ℕ) → (list_any (λ x. bytes_eq name (bytes x)) xs ≡ true) ↔ Contains (map bytes xs) name
listed_iff bytes [] name = (λ h. cc, λ h. absurd (none_in_nil name h))
listed_iff bytes (x ∷ xs) name =
    let later = listed_iff bytes xs name in (
      λ h. ⊎_elim
          (λ e. subst (λ y. Contains (bytes x ∷ map bytes xs) y) (sym ((bytes_eq-Decides name (bytes x)).0 e)) (Contains-first (bytes x) (map bytes xs)))
          (λ k. Contains-later (bytes x) (map bytes xs) name (later.0 k))
          (or_cases (bytes_eq name (bytes x)) _ h),
      λ h. ⊎_elim
          (λ e. or_left (bytes_eq name (bytes x)) _ ((bytes_eq-Decides name (bytes x)).1 (sym e)))
          (λ k. or_right (bytes_eq name (bytes x)) _ (later.1 k))
          (Contains-cons_cases (bytes x) (map bytes xs) name h),
    )

pub not_listed : {X : Type 0} (bytes : X → List ℕ) (xs : List X) (name : List ℕ) → list_any (λ x. bytes_eq name (bytes x)) xs ≡ false → Contains (map bytes xs) name → ⊥
not_listed bytes xs name h c = false≢true (sym h ∙ (listed_iff bytes xs name).1 c)
