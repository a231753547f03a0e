-- The bits of words: after one is set, of words that are joined, and as truth values.
use Rattle.std.proofs.Common.{◌≡◌, refl, sym, ap, subst, ◌∙◌, ℕ, zero, suc, ◌<◌, ◌≤◌, ◌+◌, ◌*◌, ◌/◌, ◌%◌, ◌^◌, length, set, get_or, get_or-set_other, get_or-set_same, List, Bool, true, false, arith, nat_eq, ◌||◌, ◌&&◌, not, ◌≢◌, w64, max, min, [], ◌∷◌, ⊎_elim, replicate}
use Rattle.std.specs.Prelude.{IsTrue, bit_or, ◌==◌}
use Rattle.std.specs.Int.{bit_at, bit_not}
use Rattle.std.specs.Int.Bits.{bit_and}
use Rattle.std.proofs.Math.Bool.{and-true, and-false}
use Rattle.std.proofs.lemmas.Bool.{eqb-true, eqb-false, eq-eqb, cases_lt}
use Rattle.std.proofs.lemmas.Nat.Bits.{bit_at_and, bit_at_or, bit_at_set_same, bit_at_set_other, bit_at_clear_same, bit_at_clear_other, bit_at-lt, bit_at-zero, bit_at_above, same_from_bits}
use Rattle.labels.specs.Row.{has}
use Rattle.labels.specs.Words.{GrowBetween, WordStays, NoneNew, has_bit, word}

neq-eqb : (a b : ℕ) → a ≢ b → nat_eq a b ≡ false
neq-eqb a b ne = go (nat_eq a b) refl
  where
    go : (t : Bool) → nat_eq a b ≡ t → nat_eq a b ≡ false
    go true e = absurd (ne (eqb-true a b e))
    go false e = e

-- a number is added
pub set-bit : (words : List ℕ) (i w n : ℕ) → i / 64 < length words → w ≡ word words (i / 64) →
    has_bit (set words (i / 64) (bit_or w (1 * 2 ^ (i % 64) % 2 ^ 64))) n ≡ (n == i || has_bit words n)
set-bit words i w n h is = at_word (nat_eq (n / 64) (i / 64)) refl
  where
    new : ℕ
    new = bit_or w (1 * 2 ^ (i % 64) % 2 ^ 64)

    at_bit : n / 64 ≡ i / 64 → (t : Bool) → nat_eq (n % 64) (i % 64) ≡ t → (bit_at new (n % 64) == 1) ≡ (n == i || has_bit words n)
    at_bit same true e =
        let place : n % 64 ≡ i % 64 = eqb-true (n % 64) (i % 64) e in
        let is_n : n ≡ i = omega (arith, same, place) in
        let here : bit_at new (n % 64) ≡ 1 = ap (bit_at new) place ∙ bit_at_set_same w64 w (i % 64) (omega arith) in
        rw (here, eq-eqb n i is_n) refl
    at_bit same false e =
        let place : n % 64 ≢ i % 64 = eqb-false (n % 64) (i % 64) e in
        let other : n ≢ i = λ is_n. place (ap (λ x. x % 64) is_n) in
        let here : bit_at new (n % 64) ≡ bit_at (get_or words (n / 64) 0) (n % 64) =
        bit_at_set_other w64 w (i % 64) (omega arith) (n % 64) place ∙ (ap (λ x. bit_at x (n % 64)) is ∙ ap (λ j. bit_at (get_or words j 0) (n % 64)) (sym same)) in
        rw (here, neq-eqb n i other) refl

    at_word : (t : Bool) → nat_eq (n / 64) (i / 64) ≡ t → has_bit (set words (i / 64) new) n ≡ (n == i || has_bit words n)
    at_word true e =
        let same : n / 64 ≡ i / 64 = eqb-true (n / 64) (i / 64) e in
        ap (λ x. bit_at x (n % 64) == 1) (ap (λ j. get_or (set words (i / 64) new) j 0) same ∙ get_or-set_same words (i / 64) new 0 h)
        ∙ at_bit same (nat_eq (n % 64) (i % 64)) refl
    at_word false e =
        let apart : n / 64 ≢ i / 64 = eqb-false (n / 64) (i / 64) e in
        let other : n ≢ i = λ is_n. apart (ap (λ x. x / 64) is_n) in
        ap (λ x. bit_at x (n % 64) == 1) (get_or-set_other words (i / 64) (n / 64) new 0 apart) ∙ rw (neq-eqb n i other) refl

-- a number is taken out
pub clear-bit : (words : List ℕ) (i w n : ℕ) → i / 64 < length words → w ≡ word words (i / 64) →
    has_bit (set words (i / 64) (bit_and w (bit_not w64 (1 * 2 ^ (i % 64) % 2 ^ 64)))) n ≡ (has_bit words n && not (n == i))
clear-bit words i w n h is = at_word (nat_eq (n / 64) (i / 64)) refl
  where
    new : ℕ
    new = bit_and w (bit_not w64 (1 * 2 ^ (i % 64) % 2 ^ 64))

    stays : (t : Bool) → n ≢ i → t ≡ (t && not (n == i))
    stays t other = sym (and-true t) ∙ ap (λ b. t && not b) (sym (neq-eqb n i other))

    at_bit : n / 64 ≡ i / 64 → (t : Bool) → nat_eq (n % 64) (i % 64) ≡ t → (bit_at new (n % 64) == 1) ≡ (has_bit words n && not (n == i))
    at_bit same true e =
        let place : n % 64 ≡ i % 64 = eqb-true (n % 64) (i % 64) e in
        let is_n : n ≡ i = omega (arith, same, place) in
        let here : bit_at new (n % 64) ≡ 0 = ap (bit_at new) place ∙ bit_at_clear_same w64 w (i % 64) (omega arith) in
        ap (λ x. x == 1) here ∙ (sym (and-false (has_bit words n)) ∙ ap (λ b. has_bit words n && not b) (sym (eq-eqb n i is_n)))
    at_bit same false e =
        let place : n % 64 ≢ i % 64 = eqb-false (n % 64) (i % 64) e in
        let here : bit_at new (n % 64) ≡ bit_at (get_or words (n / 64) 0) (n % 64) =
        bit_at_clear_other w64 w (i % 64) (omega arith) (n % 64) (omega arith) place ∙ (ap (λ x. bit_at x (n % 64)) is ∙ ap (λ j. bit_at (get_or words j 0) (n % 64)) (sym same)) in
        ap (λ x. x == 1) here ∙ stays (has_bit words n) (λ is_n. place (ap (λ x. x % 64) is_n))

    at_word : (t : Bool) → nat_eq (n / 64) (i / 64) ≡ t → has_bit (set words (i / 64) new) n ≡ (has_bit words n && not (n == i))
    at_word true e =
        let same : n / 64 ≡ i / 64 = eqb-true (n / 64) (i / 64) e in
        ap (λ x. bit_at x (n % 64) == 1) (ap (λ j. get_or (set words (i / 64) new) j 0) same ∙ get_or-set_same words (i / 64) new 0 h)
        ∙ at_bit same (nat_eq (n % 64) (i % 64)) refl
    at_word false e =
        let apart : n / 64 ≢ i / 64 = eqb-false (n / 64) (i / 64) e in
        ap (λ x. bit_at x (n % 64) == 1) (get_or-set_other words (i / 64) (n / 64) new 0 apart) ∙ stays (has_bit words n) (λ is_n. apart (ap (λ x. x / 64) is_n))

-- a union
max-one : (a b : ℕ) → a < 2 → b < 2 → (max a b == 1) ≡ (a == 1 || b == 1)
max-one zero zero h k = refl
max-one zero (suc zero) h k = refl
max-one zero (suc (suc b)) h k = absurd (omega (arith, k))
max-one (suc zero) zero h k = refl
max-one (suc zero) (suc zero) h k = refl
max-one (suc zero) (suc (suc b)) h k = absurd (omega (arith, k))
max-one (suc (suc a)) b h k = absurd (omega (arith, h))

pub word-joined-bit : (a b k : ℕ) → (bit_at (bit_or a b) k == 1) ≡ (bit_at a k == 1 || bit_at b k == 1)
word-joined-bit a b k = ap (λ x. x == 1) (bit_at_or a b k) ∙ max-one (bit_at a k) (bit_at b k) (bit_at-lt a k) (bit_at-lt b k)

pub joined-bit : (words others joined : List ℕ) (n : ℕ) → word joined (n / 64) ≡ bit_or (word words (n / 64)) (word others (n / 64)) →
    has_bit joined n ≡ (has_bit words n || has_bit others n)
joined-bit words others joined n e =
    let a = get_or words (n / 64) 0 in
    let b = get_or others (n / 64) 0 in
    ap (λ x. bit_at x (n % 64) == 1) e
    ∙ (ap (λ x. x == 1) (bit_at_or a b (n % 64)) ∙ max-one (bit_at a (n % 64)) (bit_at b (n % 64)) (bit_at-lt a (n % 64)) (bit_at-lt b (n % 64)))

-- what two words both have
min-one : (a b : ℕ) → a < 2 → b < 2 → (min a b == 1) ≡ (a == 1 && b == 1)
min-one zero zero h k = refl
min-one zero (suc zero) h k = refl
min-one zero (suc (suc b)) h k = absurd (omega (arith, k))
min-one (suc zero) zero h k = refl
min-one (suc zero) (suc zero) h k = refl
min-one (suc zero) (suc (suc b)) h k = absurd (omega (arith, k))
min-one (suc (suc a)) b h k = absurd (omega (arith, h))

pub met-bit : (words others met : List ℕ) (n : ℕ) → word met (n / 64) ≡ bit_and (word words (n / 64)) (word others (n / 64)) →
    has_bit met n ≡ (has_bit words n && has_bit others n)
met-bit words others met n e =
    let a = get_or words (n / 64) 0 in
    let b = get_or others (n / 64) 0 in
    ap (λ x. bit_at x (n % 64) == 1) e
    ∙ (ap (λ x. x == 1) (bit_at_and a b (n % 64)) ∙ min-one (bit_at a (n % 64)) (bit_at b (n % 64)) (bit_at-lt a (n % 64)) (bit_at-lt b (n % 64)))

-- a word that its union leaves as it is has all bits of the other
kept-bit : (a b i : ℕ) → bit_or a b ≡ a → bit_at b i ≡ 1 → bit_at a i ≡ 1
kept-bit a b i e one =
    let both : bit_at a i ≡ max (bit_at a i) (bit_at b i) = ap (λ x. bit_at x i) (sym e) ∙ bit_at_or a b i in
    omega (arith, both, one, bit_at-lt a i)

pub kept-has : (words others : List ℕ) (n : ℕ) → WordStays words others (n / 64) → IsTrue (has_bit others n) → IsTrue (has_bit words n)
kept-has words others n kept has =
    let one : bit_at (get_or others (n / 64) 0) (n % 64) ≡ 1 = eqb-true (bit_at (get_or others (n / 64) 0) (n % 64)) 1 has in
    eq-eqb (bit_at (get_or words (n / 64) 0) (n % 64)) 1 (kept-bit (get_or words (n / 64) 0) (get_or others (n / 64) 0) (n % 64) kept one)

-- and the other way round
bits-kept : (a b i : ℕ) → (bit_at b i ≡ 1 → bit_at a i ≡ 1) → bit_at (bit_or a b) i ≡ bit_at a i
bits-kept a b i each = bit_at_or a b i ∙ go (bit_at a i) (bit_at b i) (bit_at-lt a i) (bit_at-lt b i) each
  where
    go : (x y : ℕ) → x < 2 → y < 2 → (y ≡ 1 → x ≡ 1) → max x y ≡ x
    go zero zero h k f = refl
    go zero (suc zero) h k f = absurd (let no : 0 ≡ 1 = f refl in omega (arith, no))
    go zero (suc (suc y)) h k f = absurd (omega (arith, k))
    go (suc zero) zero h k f = refl
    go (suc zero) (suc zero) h k f = refl
    go (suc zero) (suc (suc y)) h k f = absurd (omega (arith, k))
    go (suc (suc x)) y h k f = absurd (omega (arith, h))

pub includes-kept : (words others : List ℕ) (j : ℕ) → word others j < 2 ^ 64 → ((n : ℕ) → IsTrue (has_bit others n) → IsTrue (has_bit words n)) → WordStays words others j
includes-kept words others j small includes =
    same_from_bits (bit_or (word words j) (word others j)) (word words j) (λ i.
    bits-kept (word words j) (word others j) i (λ one.
    ⊎_elim (λ (h : i < 64).
    let n = 64 * j + i in
    let at : n / 64 ≡ j = omega (arith, h) in
    let place : n % 64 ≡ i = omega (arith, h) in
    let has : IsTrue (has_bit others n) = eq-eqb (bit_at (word others (n / 64)) (n % 64)) 1 (rw (at, place) one) in
    let is : bit_at (word words (n / 64)) (n % 64) ≡ 1 = eqb-true (bit_at (word words (n / 64)) (n % 64)) 1 (includes n has) in
    sym (ap (λ x. bit_at (word words x) (n % 64)) at ∙ ap (bit_at (word words j)) place) ∙ is)
    (λ (ge : 64 ≤ i). let no : 0 ≡ 1 = sym (bit_at_above (word others j) 64 i small ge) ∙ one in absurd (omega (arith, no)))
    (cases_lt i 64)))

-- beyond the words there are none
pub word-beyond : (words : List ℕ) (j : ℕ) → length words ≤ j → word words j ≡ 0
word-beyond [] j h = refl
word-beyond (w ∷ words) zero h = absurd (omega (arith, h))
word-beyond (w ∷ words) (suc j) h = word-beyond words j (omega (arith, h))

pub bit-beyond : (words : List ℕ) (n : ℕ) → length words ≤ n / 64 → has_bit words n ≡ false
bit-beyond words n h = ap (λ x. bit_at x (n % 64) == 1) (word-beyond words (n / 64) h) ∙ ap (λ x. x == 1) (bit_at-zero (n % 64))

-- so do words without bits have none
pub word-zeros : (count j : ℕ) → word (replicate count 0) j ≡ 0
word-zeros zero j = refl
word-zeros (suc count) zero = refl
word-zeros (suc count) (suc j) = word-zeros count j

pub bit-zeros : (count n : ℕ) → has_bit (replicate count 0) n ≡ false
bit-zeros count n = ap (λ x. bit_at x (n % 64) == 1) (word-zeros count (n / 64)) ∙ ap (λ x. x == 1) (bit_at-zero (n % 64))

-- a word that has no number of its own
pub none-step : (words others : List ℕ) (from i more : ℕ) (grows : Bool) → NoneNew words others from i → GrowBetween others words (i / 64) (i / 64 + 1) grows →
    grows ≡ false → i % 64 ≡ 0 → more ≤ 64 → NoneNew words others from (i + more)
none-step words others from i more true none grow e first short = absurd (let no : true ≡ false = e in cc)
none-step words others from i more false none grow e first short = λ n ge lt has.
    ⊎_elim (λ (before : n < i). none n ge before has)
    (λ (at : i ≤ n).
    let same : i / 64 ≡ n / 64 = omega (arith, at, lt, first, short) in
    kept-has others words n (subst (WordStays others words) same (grow (i / 64) (omega arith) (omega arith))) has)
    (cases_lt n i)
