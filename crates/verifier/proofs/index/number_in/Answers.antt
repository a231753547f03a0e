use Rattle.std.proofs.Common.{◌≡◌, ◌≢◌, ◌<◌, ◌^◌, ℕ, ◌+◌, ◌-◌, ◌*◌, ◌/◌, ◌%◌, length, get_or, ap, sym, ◌∙◌, arith, bit_and, Some, None, refl, List}
use Rattle.std.specs.Prelude.{count_ones}
use Rattle.std.specs.Int.{bit_at}
use Rattle.std.proofs.lemmas.Nat.{and_mask, one_shl}
use Rattle.std.proofs.lemmas.Nat.Bits.{bit_at-lt, shr_and_one}
use Rattle.labels.specs.Words.{word}
use Rattle.verifier.specs.Starts.{HasCounts, number_at, starts_before}
use Rattle.verifier.proofs.Counted.{before-most, counted}
use Rattle.verifier.proofs.index.number_in.Goals as goal

-- the number of a byte whose bit is read as 0, or not
unset : (starts : List ℕ) (at w : ℕ) → w ≡ word starts (at / 64) → bit_and (w / 2 ^ (at % 64)) 1 ≡ 0 → number_at starts at ≡ None
unset starts at w is zero =
    let bit : bit_at (word starts (at / 64)) (at % 64) ≡ 0 = ap (λ x. bit_at x (at % 64)) (sym is) ∙ sym (shr_and_one w (at % 64)) ∙ zero in
    rw bit refl

one : (b : ℕ) → b < 2 → b ≢ 0 → b ≡ 1
one b lt some = omega (arith, lt, some)

is-set : (starts : List ℕ) (at w : ℕ) → w ≡ word starts (at / 64) → bit_and (w / 2 ^ (at % 64)) 1 ≢ 0 → number_at starts at ≡ Some (starts_before starts at)
is-set starts at w is some =
    let read : bit_and (w / 2 ^ (at % 64)) 1 ≡ bit_at (word starts (at / 64)) (at % 64) = shr_and_one w (at % 64) ∙ ap (λ x. bit_at x (at % 64)) is in
    let bit : bit_at (word starts (at / 64)) (at % 64) ≡ 1 = one (bit_at (word starts (at / 64)) (at % 64)) (bit_at-lt (word starts (at / 64)) (at % 64)) (λ e. some (read ∙ e)) in
    rw bit refl

-- the count of a word and that of its lower bits
sum : (starts counts : List ℕ) (at w n : ℕ) → HasCounts starts counts → at / 64 < length starts → w ≡ word starts (at / 64) → n ≡ get_or counts (at / 64) 0 →
    n + count_ones (bit_and w (1 * 2 ^ (at % 64) % 2 ^ 64 - 1)) ≡ starts_before starts at
sum starts counts at w n has there is count =
    let bit : at % 64 < 64 = omega arith in
    ap (λ m. n + count_ones (bit_and w (m - 1))) (one_shl (at % 64) 64 bit)
    ∙ ap (λ m. n + count_ones m) (and_mask w (at % 64) ∙ ap (λ x. x % 2 ^ (at % 64)) is)
    ∙ ap (λ m. m + count_ones (word starts (at / 64) % 2 ^ (at % 64))) count
    ∙ counted starts counts at has there

pub returns-then-starts-bit-eq0 : goal.returns-then-starts-bit-eq0
returns-then-starts-bit-eq0 c =
    let words = c.args.words.now in
    let at = c.args.offset in
    sym (unset words at (word words (at / 64)) refl c.if-starts-bit-eq0.true)

pub overflow_add-result : goal.overflow_add-result
overflow_add-result c =
    let words = c.args.words.now in
    let counts = c.args.counts.now in
    let at = c.args.offset in
    omega (arith, sum words counts at (word words (at / 64)) (get_or counts (at / 64) 0) c.requires.counts c.requires.there refl refl, before-most words at, c.requires.short)

pub returns : goal.returns
returns c =
    let words = c.args.words.now in
    let counts = c.args.counts.now in
    let at = c.args.offset in
    ap Some (sum words counts at (word words (at / 64)) (get_or counts (at / 64) 0) c.requires.counts c.requires.there refl refl)
    ∙ sym (is-set words at (word words (at / 64)) refl c.if-starts-bit-eq0.false)
