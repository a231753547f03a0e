-- Sets of numbers as truth values: after a number was added, of two sets, and how many numbers they have.
use Rattle.std.proofs.Common.{◌≡◌, refl, ap, ◌∙◌, subst, sym, ℕ, zero, suc, ◌<◌, ◌≤◌, ◌+◌, length, set, get_or, get_or-set_other, get_or-set_same, List, [], ◌∷◌, Bool, true, false, arith, nat_eq, ◌||◌, ◌⊎◌, inl, inr, replicate, add-zero, Option, Some, None}
use Rattle.std.specs.Prelude.{IsTrue, ◌==◌, is_some}
use Rattle.std.proofs.lemmas.Bool.{cases_lt, eqb-true, eqb-false, or_left, or_right}
use Rattle.labels.specs.Row.{FirstBeyond, Includes, has}
use Rattle.solver.specs.Work.{Grown}
use Rattle.solver.specs.Looks.{count_of, one, stands_left, written_left}
use Rattle.solver.specs.declared.constraints.Constraint.{Constraint}

-- how many numbers a set has, or flags are set
abbrev pub size : List Bool → ℕ
size row = count_of (λ b. b) row

pub has-none : (n i : ℕ) → has (replicate n false) i ≡ false
has-none zero i = refl
has-none (suc n) zero = refl
has-none (suc n) (suc i) = has-none n i

pub has-set : (row : List Bool) (i n : ℕ) → i < length row → has (set row i true) n ≡ (n == i || has row n)
has-set row i n h = go (nat_eq n i) refl
  where
    go : (t : Bool) → nat_eq n i ≡ t → has (set row i true) n ≡ (n == i || has row n)
    go true e =
        let is : n ≡ i = eqb-true n i e in
        rw e (ap (λ j. get_or (set row i true) j false) is ∙ get_or-set_same row i true false h)
    go false e = rw e (get_or-set_other row i n true false (eqb-false n i e))

-- of written elements that stand in left sides there are at most this many
pub size-at_most : {T : Type 0} (cs : List (Constraint T)) (k : ℕ) (row : List Bool) → ((n : ℕ) → IsTrue (has row n) → IsTrue (stands_left cs (k + n))) → size row ≤ written_left cs k (length row)
size-at_most cs k [] each = omega arith
size-at_most {T} cs k (b ∷ row) each =
    let rest = size-at_most cs (suc k) row (λ n h. let e : k + suc n ≡ suc k + n = omega arith in subst (λ m. IsTrue (stands_left cs m)) e (each (suc n) h)) in
    let first = go b (λ h. subst (λ m. IsTrue (stands_left cs m)) (add-zero k) (each 0 h)) in
    omega (arith, rest, first)
  where
    go : (t : Bool) → (IsTrue t → IsTrue (stands_left cs k)) → one t ≤ one (stands_left cs k)
    go false f = omega arith
    go true f = let e : stands_left cs k ≡ true = f refl in rw e (omega arith)

pub size-none : (n : ℕ) → size (replicate n false) ≡ 0
size-none zero = refl
size-none (suc n) = let rest = size-none n in omega (arith, rest)

-- one more flag is set
pub size-set : (row : List Bool) (i : ℕ) → i < length row → has row i ≡ false → size (set row i true) ≡ size row + 1
size-set [] i h off = absurd (omega (arith, h))
size-set (b ∷ row) zero h off = let e : one b ≡ 0 = ap one off in omega (arith, e)
size-set (b ∷ row) (suc i) h off = let more = size-set row i (omega (arith, h)) off in omega (arith, more)

pub set-same : (row : List Bool) (i : ℕ) → IsTrue (has row i) → set row i true ≡ row
set-same [] i h = refl
set-same (b ∷ row) zero h = ap (λ (x : Bool). x ∷ row) (sym h)
set-same (b ∷ row) (suc i) h = ap (λ (r : List Bool). b ∷ r) (set-same row i h)

-- more written elements, more that stand in left sides
pub written_left-more : {T : Type 0} (cs : List (Constraint T)) (k n m : ℕ) → n ≤ m → written_left cs k n ≤ written_left cs k m
written_left-more cs k zero m h = omega arith
written_left-more cs k (suc n) zero h = absurd (omega (arith, h))
written_left-more cs k (suc n) (suc m) h = let rest = written_left-more cs (suc k) n m (omega (arith, h)) in omega (arith, rest)

-- a set that has all numbers of another one, and one more
one-le : (a b : Bool) → (IsTrue a → IsTrue b) → one a ≤ one b
one-le false b h = omega arith
one-le true b h = let e : b ≡ true = h refl in rw e (omega arith)

one-none : (a : Bool) → (IsTrue a → IsTrue false) → one a ≡ 0
one-none false h = refl
one-none true h = let no : false ≡ true = h refl in absurd (cc)

pub size-le : (a b : List Bool) → ((n : ℕ) → IsTrue (has a n) → IsTrue (has b n)) → size a ≤ size b
size-le [] b h = omega arith
size-le (x ∷ a) [] h = let rest = size-le a [] (λ n. h (suc n)) in let none = one-none x (h 0) in omega (arith, rest, none)
size-le (x ∷ a) (y ∷ b) h = let rest = size-le a b (λ n. h (suc n)) in let first = one-le x y (h 0) in omega (arith, rest, first)

pub size-less : (a b : List Bool) (i : ℕ) → ((n : ℕ) → IsTrue (has a n) → IsTrue (has b n)) → IsTrue (has b i) → has a i ≡ false → size a < size b
size-less a [] i h there off = let no : false ≡ true = there in absurd (cc)
size-less [] (y ∷ b) zero h there off = let e : one y ≡ 1 = ap one there in omega (arith, e)
size-less [] (y ∷ b) (suc i) h there off = let rest = size-less [] b i (λ n held. let no : false ≡ true = held in absurd (cc)) there refl in omega (arith, rest)
size-less (x ∷ a) (y ∷ b) zero h there off =
    let rest = size-le a b (λ n. h (suc n)) in
    let here : one y ≡ 1 = ap one there in
    let none : one x ≡ 0 = ap one off in
    omega (arith, rest, here, none)
size-less (x ∷ a) (y ∷ b) (suc i) h there off = let rest = size-less a b i (λ n. h (suc n)) there off in let first = one-le x y (h 0) in omega (arith, rest, first)

-- ---- the numbers of a row are added to another one, which lacks one of them
pub some-new : (row left new : List Bool) (i : ℕ) → ((n : ℕ) → has new n ≡ (has left n || has row n)) → IsTrue (has left i) → has row i ≡ false → size row < size new
some-new row left new i is there off =
    size-less row new i (λ n held. is n ∙ or_right (has left n) (has row n) held) (is i ∙ or_left (has left i) (has row i) there) off

pub more-new : (own row new : List Bool) → ((n : ℕ) → has new n ≡ (has row n || has own n)) → (Includes own row → ⊥) → size own < size new
more-new own row new is lacks = go (cases_lt (size own) (size new))
  where
    covered : size new ≤ size own → (n : ℕ) → (t : Bool) → has own n ≡ t → IsTrue (has row n) → IsTrue (has own n)
    covered few n true e there = e
    covered few n false e there = let more = some-new own row new n is there e in absurd (omega (arith, more, few))

    go : (size own < size new) ⊎ (size new ≤ size own) → size own < size new
    go (inl more) = more
    go (inr few) = absurd (lacks (λ n there. covered few n (has own n) refl there))

-- a row that has all numbers of another one, and one that does not
or-swap : (a b : Bool) → (a || b) ≡ (b || a)
or-swap true true = refl
or-swap true false = refl
or-swap false true = refl
or-swap false false = refl

or-kept : (a b : Bool) → (IsTrue b → IsTrue a) → a ≡ (a || b)
or-kept true b h = refl
or-kept false false h = refl
or-kept false true h = let no : false ≡ true = h refl in absurd (cc)

pub grown-members : (own more row : List Bool) → Grown own more row → (n : ℕ) → has row n ≡ (has own n || has more n)
grown-members own more row grown n = grown.members n ∙ or-swap (has more n) (has own n)

pub kept-all : (own : List Bool) (more : ℕ → Bool) → ((n : ℕ) → IsTrue (more n) → IsTrue (has own n)) → (n : ℕ) → has own n ≡ (has own n || more n)
kept-all own more all n = or-kept (has own n) (more n) (all n)

pub same-members : (a b : Bool) → (IsTrue a → IsTrue b) → (IsTrue b → IsTrue a) → a ≡ b
same-members a b to from = or-kept a b from ∙ (or-swap a b ∙ sym (or-kept b a to))

pub some-size : (row : List Bool) (found : Option ℕ) → FirstBeyond row [] 0 found → IsTrue (is_some found) → 0 < size row
some-size row None first some = let no : false ≡ true = some in absurd (cc)
some-size row (Some i) first some = size-less [] row i (λ n held. let no : false ≡ true = held in absurd (cc)) first.there refl
