-- Bits and how many of them are set: in a word, before a byte, and after one more is set.
use Rattle.std.proofs.Common.{◌≡◌, refl, sym, ap, ◌∙◌, ℕ, zero, suc, ◌<◌, ◌≤◌, ◌+◌, ◌*◌, ◌/◌, ◌%◌, ◌^◌, length, set, get_or, replicate, map, List, ◌∷◌, Bool, true, false, if◌then◌else◌, Some, None, arith, nat_eq, ◌≢◌, ◌||◌, inl, inr}
use Rattle.std.specs.Prelude.{◌==◌, count_ones}
use Rattle.std.specs.Int.{bit_at}
use Rattle.std.proofs.lemmas.Bool.{eqb-true, eqb-false, eq-eqb, ne_eqb, cases_lt}
use Rattle.std.proofs.lemmas.List.{ext_get_or, get_or-set_other, get_or-set_same, length-set}
use Rattle.std.proofs.lemmas.Nat.{mod-pow-add, ones_cat, ones_le_self, pow_pos}
use Rattle.std.proofs.Math.Nat.{mod-lt}
use Rattle.std.specs.Int.Count.{ones_step}
use Rattle.std.proofs.lemmas.Nat.Bits.{bit_at-lt}
use Rattle.labels.specs.Words.{has_bit, word}
use Rattle.verifier.specs.Numbers.{number_of}
use Rattle.verifier.specs.Starts.{HasCounts, number_at, numbers_of, starts_before}

-- ---- indices without numbers

pub unmarked : (count : ℕ) → map number_of (replicate count 0) ≡ replicate count None
unmarked zero = refl
unmarked (suc count) = ap (λ l. None ∷ l) (unmarked count)

-- ---- in a word

-- how many of this many lowest bits are set
abbrev pub low : ℕ → ℕ → ℕ
low w zero = 0
low w (suc i) = low w i + bit_at w i

one-bit : (b : ℕ) → b < 2 → count_ones b ≡ b
one-bit zero h = omega (arith, ones_le_self 0)
one-bit (suc zero) h = omega (arith, ones_step 1, ones_le_self 0)
one-bit (suc (suc b)) h = absurd (omega (arith, h))

pub ones-low : (w i : ℕ) → count_ones (w % 2 ^ i) ≡ low w i
ones-low w zero = let none : w % 2 ^ 0 ≡ 0 = omega arith in ap count_ones none ∙ one-bit 0 (omega arith)
ones-low w (suc i) =
    let next : suc i ≡ 1 + i = omega arith in
    ap (λ n. count_ones (w % 2 ^ n)) next
    ∙ ap count_ones (mod-pow-add w 1 i)
    ∙ ones_cat i (bit_at w i) (w % 2 ^ i) (mod-lt w (pow_pos i))
    ∙ ap (λ n. n + count_ones (w % 2 ^ i)) (one-bit (bit_at w i) (bit_at-lt w i))
    ∙ omega (arith, ones-low w i)

-- ---- before a byte

step : (b n : ℕ) → b < 2 → (if b == 1 then suc n else n) ≡ n + b
step zero n h = omega arith
step (suc zero) n h = omega arith
step (suc (suc b)) n h = absurd (omega (arith, h))

-- the bits of a word after those of the words before it
pub in-word : (starts : List ℕ) (j i : ℕ) → i ≤ 64 → starts_before starts (64 * j + i) ≡ starts_before starts (64 * j) + low (word starts j) i
in-word starts j zero h = let same : 64 * j + 0 ≡ 64 * j = omega arith in ap (starts_before starts) same ∙ omega arith
in-word starts j (suc i) h =
    let at = 64 * j + i in
    let next : 64 * j + suc i ≡ suc at = omega arith in
    let same : at / 64 ≡ j = omega (arith, h) in
    let place : at % 64 ≡ i = omega (arith, h) in
    ap (starts_before starts) next
    ∙ step (bit_at (word starts (at / 64)) (at % 64)) (starts_before starts at) (bit_at-lt (word starts (at / 64)) (at % 64))
    ∙ ap (λ k. starts_before starts at + bit_at (word starts k) (at % 64)) same
    ∙ ap (λ k. starts_before starts at + bit_at (word starts j) k) place
    ∙ omega (arith, in-word starts j i (omega (arith, h)))

-- the count of a word, and its bits below that of a byte
pub counted : (starts counts : List ℕ) (at : ℕ) → HasCounts starts counts → at / 64 < length starts →
    get_or counts (at / 64) 0 + count_ones (word starts (at / 64) % 2 ^ (at % 64)) ≡ starts_before starts at
counted starts counts at has inside =
    let back : 64 * (at / 64) + at % 64 ≡ at = omega arith in
    omega (arith, has.counted (at / 64) inside, ones-low (word starts (at / 64)) (at % 64), in-word starts (at / 64) (at % 64) (omega arith), ap (starts_before starts) back)

-- all bits of a word
pub whole-word : (starts : List ℕ) (j : ℕ) → word starts j < 2 ^ 64 → starts_before starts (64 * j + 64) ≡ starts_before starts (64 * j) + count_ones (word starts j)
whole-word starts j small =
    let all : word starts j % 2 ^ 64 ≡ word starts j = omega (arith, small) in
    in-word starts j 64 (omega arith) ∙ omega (arith, ones-low (word starts j) 64, ap count_ones all)

-- no more bits are set than there are
one-more : (b : Bool) (n : ℕ) → (if b then suc n else n) ≤ suc n
one-more true n = omega arith
one-more false n = omega arith

one-least : (b : Bool) (n : ℕ) → n ≤ (if b then suc n else n)
one-least true n = omega arith
one-least false n = omega arith

pub before-most : (starts : List ℕ) (at : ℕ) → starts_before starts at ≤ at
before-most starts zero = omega arith
before-most starts (suc at) = omega (arith, one-more (has_bit starts at) (starts_before starts at), before-most starts at)

pub before-rises : (starts : List ℕ) (at more : ℕ) → starts_before starts at ≤ starts_before starts (at + more)
before-rises starts at zero = let same : at + 0 ≡ at = omega arith in omega (arith, ap (starts_before starts) same)
before-rises starts at (suc more) =
    let next : at + suc more ≡ suc (at + more) = omega arith in
    omega (arith, ap (starts_before starts) next, one-least (has_bit starts (at + more)) (starts_before starts (at + more)), before-rises starts at more)

-- after the last one none is counted
pub before-clear : (starts : List ℕ) (at more : ℕ) → ((k : ℕ) → at ≤ k → has_bit starts k ≡ false) → starts_before starts (at + more) ≡ starts_before starts at
before-clear starts at zero clear = let same : at + 0 ≡ at = omega arith in ap (starts_before starts) same
before-clear starts at (suc more) clear =
    let next : at + suc more ≡ suc (at + more) = omega arith in
    ap (starts_before starts) next ∙ rw (clear (at + more) (omega arith)) (before-clear starts at more clear)

pub before-same : (a b : List ℕ) (at : ℕ) → ((k : ℕ) → k < at → has_bit a k ≡ has_bit b k) → starts_before a at ≡ starts_before b at
before-same a b zero same = refl
before-same a b (suc at) same =
    rw (same at (omega arith), before-same a b at (λ k lt. same k (omega (arith, lt)))) refl

-- ---- numbers

pub length-numbers : (starts : List ℕ) (from count : ℕ) → length (numbers_of starts from count) ≡ count
length-numbers starts from zero = refl
length-numbers starts from (suc count) = omega (arith, length-numbers starts (suc from) count)

number-from : (starts : List ℕ) (from count k : ℕ) → k < count → get_or (numbers_of starts from count) k None ≡ number_at starts (from + k)
number-from starts from zero k h = absurd (omega (arith, h))
number-from starts from (suc count) zero h = ap (number_at starts) (omega arith)
number-from starts from (suc count) (suc k) h = number-from starts (suc from) count k (omega (arith, h)) ∙ ap (number_at starts) (omega arith)

pub number-in : (starts : List ℕ) (count k : ℕ) → k < count → get_or (numbers_of starts 0 count) k None ≡ number_at starts k
number-in starts count k h = number-from starts 0 count k h ∙ ap (number_at starts) (omega arith)

number-past : (starts : List ℕ) (from count k : ℕ) → count ≤ k → get_or (numbers_of starts from count) k None ≡ None
number-past starts from zero k h = refl
number-past starts from (suc count) zero h = absurd (omega (arith, h))
number-past starts from (suc count) (suc k) h = number-past starts (suc from) count k (omega (arith, h))

pub number-beyond : (starts : List ℕ) (count k : ℕ) → count ≤ k → get_or (numbers_of starts 0 count) k None ≡ None
number-beyond starts count k h = number-past starts 0 count k h

pub no-numbers : (starts : List ℕ) (from count : ℕ) → ((k : ℕ) → has_bit starts k ≡ false) → numbers_of starts from count ≡ replicate count None
no-numbers starts from zero clear = refl
no-numbers starts from (suc count) clear = rw (clear from, no-numbers starts (suc from) count clear) refl

-- ---- after one more bit is set, after all others

module _ (old new : List ℕ) (at : ℕ) (added : (k : ℕ) → has_bit new k ≡ (k == at || has_bit old k)) (clear : (k : ℕ) → at ≤ k → has_bit old k ≡ false) where
  other : (k : ℕ) → k ≢ at → has_bit new k ≡ has_bit old k
  other k apart = added k ∙ rw (ne_eqb k at apart) refl

  here : has_bit new at ≡ true
  here = added at ∙ rw (eq-eqb at at refl) refl

  before-at : (k : ℕ) → k ≤ at → starts_before new k ≡ starts_before old k
  before-at k le = before-same new old k (λ n lt. other n (λ e. omega (arith, e, lt, le)))

  pub clear-after : (k : ℕ) → suc at ≤ k → has_bit new k ≡ false
  clear-after k ge = other k (λ e. omega (arith, e, ge)) ∙ clear k (omega (arith, ge))

  pub one-more-before : (more : ℕ) → starts_before new (suc at + more) ≡ suc (starts_before old at)
  one-more-before more = before-clear new (suc at) more clear-after ∙ rw here (ap suc (before-at at (omega arith)))

  pub number-added : (count : ℕ) → at < count → numbers_of new 0 count ≡ set (numbers_of old 0 count) at (Some (starts_before old at))
  number-added count h =
      ext_get_or None (numbers_of new 0 count) (set (numbers_of old 0 count) at (Some (starts_before old at)))
      (length-numbers new 0 count ∙ sym (length-set (numbers_of old 0 count) at (Some (starts_before old at)) ∙ length-numbers old 0 count))
      (λ k lt. number-in new count k (omega (arith, lt, length-numbers new 0 count)) ∙ each k (omega (arith, lt, length-numbers new 0 count)) (nat_eq k at) refl)
    where
      each : (k : ℕ) → k < count → (t : Bool) → nat_eq k at ≡ t → number_at new k ≡ get_or (set (numbers_of old 0 count) at (Some (starts_before old at))) k None
      each k lt true e =
          let is : k ≡ at = eqb-true k at e in
          ap (number_at new) is ∙ rw here (ap Some (before-at at (omega arith)))
          ∙ sym (ap (λ n. get_or (set (numbers_of old 0 count) at (Some (starts_before old at))) n None) is
          ∙ get_or-set_same (numbers_of old 0 count) at (Some (starts_before old at)) None (omega (arith, h, length-numbers old 0 count)))
      each k lt false e =
          let apart : k ≢ at = eqb-false k at e in
          number-same k apart
          ∙ sym (get_or-set_other (numbers_of old 0 count) at k (Some (starts_before old at)) None apart ∙ number-in old count k lt)
        where
          number-same : (k : ℕ) → k ≢ at → number_at new k ≡ number_at old k
          number-same k apart = elim (cases_lt k at) [
            | inl near ↦ rw (other k apart, before-at k (omega (arith, near))) refl
            | inr far ↦ rw (other k apart, clear k far) refl
          ]
