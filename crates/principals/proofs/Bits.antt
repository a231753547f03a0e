-- One bit of a row of words of 64 bits.
use Rattle.std.proofs.Common.{◌≡◌, ◌≢◌, ℕ, ◌*◌, ◌/◌, ◌%◌, ◌^◌, ◌<◌, Bool, true, false, ◌||◌, eqb, List, length, get_or, set, refl, ap, ◌∙◌, ⊎_elim, arith, zero, suc, w64, get_or-set_other, max}
use Rattle.std.specs.Prelude.{bit_or}
use Rattle.std.specs.Int.{bit_at}
use Rattle.std.proofs.lemmas.Bool.{cases_eq, eq-eqb, ne_eqb}
use Rattle.std.proofs.lemmas.Grind.{get_or-set_at}
use Rattle.std.proofs.lemmas.Nat.Bits.{bit_at_set_same, bit_at_set_other, bit_at_or, bit_at-lt}

-- the bit of a number among words
abbrev pub bit_among : List ℕ → ℕ → Bool
bit_among words number = eqb (bit_at (get_or words (number / 64) 0) (number % 64)) 1

same_number : (a b : ℕ) → a / 64 ≡ b / 64 → a % 64 ≡ b % 64 → a ≡ b
same_number a b q r = omega arith

other_word : (words : List ℕ) (number member word : ℕ) → (member / 64 ≢ number / 64) →
    bit_among (set words (number / 64) word) member ≡ (eqb member number || bit_among words member)
other_word words number member word apart =
    let e : eqb member number ≡ false = ne_eqb member number (λ h. apart (ap (λ x. x / 64) h)) in
    let s : get_or (set words (number / 64) word) (member / 64) 0 ≡ get_or words (member / 64) 0 = get_or-set_other words (number / 64) (member / 64) word 0 apart in
    rw (e, s)

same_word : (words : List ℕ) (number member word : ℕ) → number / 64 < length words → member / 64 ≡ number / 64 →
    bit_among (set words (number / 64) word) member ≡ eqb (bit_at word (member % 64)) 1
same_word words number member word within same =
    ap (λ x. eqb (bit_at x (member % 64)) 1) (get_or-set_at words (number / 64) (member / 64) word 0 same within)

-- the words after the bit of a number was set
pub bit_among-set : (words : List ℕ) (number member : ℕ) → number / 64 < length words →
    bit_among (set words (number / 64) (bit_or (get_or words (number / 64) 0) (1 * 2 ^ (number % 64) % 2 ^ 64))) member ≡ (eqb member number || bit_among words member)
bit_among-set words number member within =
    let old = get_or words (number / 64) 0 in
    let word = bit_or old (1 * 2 ^ (number % 64) % 2 ^ 64) in
    let inside : number % 64 < 64 = omega arith in
    ⊎_elim
    (λ same. same_word words number member word within same ∙ ⊎_elim
    (λ (r : member % 64 ≡ number % 64).
    let e : eqb member number ≡ true = eq-eqb member number (same_number member number same r) in
    let b : bit_at word (member % 64) ≡ 1 = ap (λ x. bit_at word x) r ∙ bit_at_set_same w64 old (number % 64) inside in
    rw (e, b))
    (λ (r : member % 64 ≢ number % 64).
    let e : eqb member number ≡ false = ne_eqb member number (λ h. r (ap (λ x. x % 64) h)) in
    let b : bit_at word (member % 64) ≡ bit_at old (member % 64) = bit_at_set_other w64 old (number % 64) inside (member % 64) r in
    let s : get_or words (member / 64) 0 ≡ old = ap (λ x. get_or words x 0) same in
    rw (e, b, s))
    (cases_eq (member % 64) (number % 64)))
    (λ apart. other_word words number member word apart)
    (cases_eq (member / 64) (number / 64))

-- one of two bits is set where the greater of them is
pub max_is_one : (x y : ℕ) → x < 2 → y < 2 → eqb (max x y) 1 ≡ (eqb x 1 || eqb y 1)
max_is_one zero zero h k = refl
max_is_one zero (suc zero) h k = refl
max_is_one (suc zero) zero h k = refl
max_is_one (suc zero) (suc zero) h k = refl
max_is_one (suc (suc x)) y h k = absurd (omega arith)
max_is_one zero (suc (suc y)) h k = absurd (omega arith)
max_is_one (suc zero) (suc (suc y)) h k = absurd (omega arith)

-- the words of which each has the bits of two
pub bit_among-or : (words olds mores : List ℕ) (member : ℕ) →
    get_or words (member / 64) 0 ≡ bit_or (get_or olds (member / 64) 0) (get_or mores (member / 64) 0) →
    bit_among words member ≡ (bit_among olds member || bit_among mores member)
bit_among-or words olds mores member e =
    let old = get_or olds (member / 64) 0 in
    let more = get_or mores (member / 64) 0 in
    ap (λ x. eqb (bit_at x (member % 64)) 1) e
    ∙ ap (λ x. eqb x 1) (bit_at_or old more (member % 64))
    ∙ max_is_one (bit_at old (member % 64)) (bit_at more (member % 64)) (bit_at-lt old (member % 64)) (bit_at-lt more (member % 64))
