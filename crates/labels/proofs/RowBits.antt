-- The truth values of a row are the bits of its words: what the operations on words mean for them.
use Rattle.std.proofs.Common.{◌≡◌, refl, sym, ap, subst, ◌∙◌, ℕ, zero, suc, ◌<◌, ◌≤◌, ◌+◌, ◌/◌, ◌%◌, ◌^◌, length, set, List, Bool, true, false, arith, nat_eq, ◌||◌, ◌&&◌, ◌≢◌, ⊎_elim, not, replicate, []}
use Rattle.std.specs.Prelude.{IsTrue, ◌==◌, ◌↔◌, Option, Some, None}
use Rattle.std.specs.Int.{bit_at}
use Rattle.std.proofs.lemmas.Bool.{eqb-true, eqb-false, cases_lt}
use Rattle.std.proofs.lemmas.List.{ext_get_or, length-set, get_or-set_other}
use Rattle.std.proofs.lemmas.Grind.{get_or-set_at}
use Rattle.std.proofs.lemmas.Simd.{length-zip2}
use Rattle.std.proofs.Math.Bool.{and-true, and-false}
use Rattle.labels.specs.Row.{FirstBeyond, Includes, has, union}
use Rattle.labels.specs.Words.{AreJoined, AreWords, AreWordsMet, FirstNew, GrowBetween, SomeGrow, bits_of, has_bit, word}
use Rattle.labels.proofs.WordBits.{bit-beyond, includes-kept, joined-bit, kept-has, met-bit}

pub length-bits : (words : List ℕ) (i n : ℕ) → length (bits_of words i n) ≡ n
length-bits words i zero = refl
length-bits words i (suc n) = omega (arith, length-bits words (suc i) n)

bits-from : (words : List ℕ) (i n k : ℕ) → k < n → has (bits_of words i n) k ≡ has_bit words (i + k)
bits-from words i zero k h = absurd (omega (arith, h))
bits-from words i (suc n) zero h = ap (has_bit words) (omega arith)
bits-from words i (suc n) (suc k) h = bits-from words (suc i) n k (omega (arith, h)) ∙ ap (has_bit words) (omega arith)

bits-beyond : (words : List ℕ) (i n k : ℕ) → n ≤ k → has (bits_of words i n) k ≡ false
bits-beyond words i zero k h = refl
bits-beyond words i (suc n) zero h = absurd (omega (arith, h))
bits-beyond words i (suc n) (suc k) h = bits-beyond words (suc i) n k (omega (arith, h))

pub bits-at : (words : List ℕ) (n k : ℕ) → k < n → has (bits_of words 0 n) k ≡ has_bit words k
bits-at words n k h = bits-from words 0 n k h ∙ ap (has_bit words) (omega arith)

-- where no bit is set after the last number, the values are all the bits
pub bits-all : (words : List ℕ) (n : ℕ) → ((k : ℕ) → n ≤ k → has_bit words k ≡ false) → (k : ℕ) → has (bits_of words 0 n) k ≡ has_bit words k
bits-all words n clear k = ⊎_elim (λ (lt : k < n). bits-at words n k lt) (λ (ge : n ≤ k). bits-beyond words 0 n k ge ∙ sym (clear k ge)) (cases_lt k n)

pub bits-same : (a b : List ℕ) (i n : ℕ) → ((k : ℕ) → has_bit a k ≡ has_bit b k) → bits_of a i n ≡ bits_of b i n
bits-same a b i zero each = refl
bits-same a b i (suc n) each = rw (each i, bits-same a b (suc i) n each) refl

pub bits-none : (words : List ℕ) (i n : ℕ) → ((k : ℕ) → has_bit words k ≡ false) → bits_of words i n ≡ replicate n false
bits-none words i zero each = refl
bits-none words i (suc n) each = rw (each i, bits-none words (suc i) n each) refl

pub bits-union : (old others new : List ℕ) (i n : ℕ) → ((k : ℕ) → has_bit new k ≡ (has_bit old k || has_bit others k)) →
    bits_of new i n ≡ union (bits_of old i n) (bits_of others i n)
bits-union old others new i zero each = refl
bits-union old others new i (suc n) each = rw (each i, bits-union old others new (suc i) n each) refl

pub bits-set : (old new : List ℕ) (n i : ℕ) → i < n → ((k : ℕ) → has_bit new k ≡ (k == i || has_bit old k)) →
    bits_of new 0 n ≡ set (bits_of old 0 n) i true
bits-set old new n i h each =
    ext_get_or false (bits_of new 0 n) (set (bits_of old 0 n) i true) (length-bits new 0 n ∙ sym (length-set (bits_of old 0 n) i true ∙ length-bits old 0 n))
    (λ k lt. bits-at new n k (omega (arith, lt, length-bits new 0 n)) ∙ (each k ∙ at k (omega (arith, lt, length-bits new 0 n)) (nat_eq k i) refl))
  where
    at : (k : ℕ) → k < n → (t : Bool) → nat_eq k i ≡ t → (k == i || has_bit old k) ≡ has (set (bits_of old 0 n) i true) k
    at k lt true e =
        let is : k ≡ i = eqb-true k i e in
        rw e (sym (get_or-set_at (bits_of old 0 n) i k true false is (omega (arith, h, length-bits old 0 n))))
    at k lt false e =
        rw e (sym (get_or-set_other (bits_of old 0 n) i k true false (eqb-false k i e) ∙ bits-at old n k lt))

pub bits-cleared : (old new : List ℕ) (n i : ℕ) → i < n → ((k : ℕ) → has_bit new k ≡ (has_bit old k && not (k == i))) →
    bits_of new 0 n ≡ set (bits_of old 0 n) i false
bits-cleared old new n i h each =
    ext_get_or false (bits_of new 0 n) (set (bits_of old 0 n) i false) (length-bits new 0 n ∙ sym (length-set (bits_of old 0 n) i false ∙ length-bits old 0 n))
    (λ k lt. bits-at new n k (omega (arith, lt, length-bits new 0 n)) ∙ (each k ∙ at k (omega (arith, lt, length-bits new 0 n)) (nat_eq k i) refl))
  where
    at : (k : ℕ) → k < n → (t : Bool) → nat_eq k i ≡ t → (has_bit old k && not (k == i)) ≡ has (set (bits_of old 0 n) i false) k
    at k lt true e =
        let is : k ≡ i = eqb-true k i e in
        ap (λ b. has_bit old k && not b) e ∙ (and-false (has_bit old k)
        ∙ sym (get_or-set_at (bits_of old 0 n) i k false false is (omega (arith, h, length-bits old 0 n))))
    at k lt false e =
        ap (λ b. has_bit old k && not b) e ∙ (and-true (has_bit old k)
        ∙ sym (get_or-set_other (bits_of old 0 n) i k false false (eqb-false k i e) ∙ bits-at old n k lt))

pub length-union : (a b : List Bool) → length a ≡ length b → length (union a b) ≡ length a
length-union a b e = length-zip2 (λ x y. x || y) a b e

-- what words that are joined mean
module _ (n : ℕ) (old others new : List ℕ) (grew : Bool) (count : length others ≡ length old) (small : (j : ℕ) → word others j < 2 ^ 64)
    (clear : (k : ℕ) → n ≤ k → has_bit others k ≡ false) (joined : AreJoined old others new 0 (length old) grew) where
  pub joined-bits : (k : ℕ) → has_bit new k ≡ (has_bit old k || has_bit others k)
  joined-bits k = ⊎_elim
      (λ (lt : k / 64 < length old). joined-bit old others new k (joined.joined (k / 64) (omega arith) lt))
      (λ (ge : length old ≤ k / 64). rw (bit-beyond new k (omega (arith, ge, joined.count)), bit-beyond old k ge, bit-beyond others k (omega (arith, ge, count))) refl)
      (cases_lt (k / 64) (length old))

  pub joined-values : bits_of new 0 n ≡ union (bits_of old 0 n) (bits_of others 0 n)
  joined-values = bits-union old others new 0 n joined-bits

  -- where the values stay, all bits of the others were set
  had : bits_of new 0 n ≡ bits_of old 0 n → (k : ℕ) → IsTrue (has_bit others k) → IsTrue (has_bit old k)
  had same k there = ⊎_elim
      (λ (lt : k < n). subst IsTrue (sym (bits-at new n k lt) ∙ (ap (λ xs. has xs k) same ∙ bits-at old n k lt)) (both k there))
      (λ (ge : n ≤ k). absurd (let no : false ≡ true = sym (clear k ge) ∙ there in cc))
      (cases_lt k n)
    where
      or-true : (b : Bool) → (b || true) ≡ true
      or-true true = refl
      or-true false = refl

      both : (k : ℕ) → IsTrue (has_bit others k) → IsTrue (has_bit new k)
      both k there = joined-bits k ∙ (ap (λ b. has_bit old k || b) there ∙ or-true (has_bit old k))

  stays : grew ≡ false → bits_of new 0 n ≡ bits_of old 0 n
  stays e = bits-same new old 0 n (λ k. joined-bits k ∙ kept k (has_bit others k) refl)
    where
      inside : (k : ℕ) → IsTrue (has_bit others k) → k / 64 < length old
      inside k there = ⊎_elim (λ (lt : k / 64 < length old). lt)
          (λ (ge : length old ≤ k / 64). absurd (let no : false ≡ true = sym (bit-beyond others k (omega (arith, ge, count))) ∙ there in cc))
          (cases_lt (k / 64) (length old))

      none : GrowBetween old others 0 (length old) false
      none = subst (GrowBetween old others 0 (length old)) e joined.grow

      or-false : (b : Bool) → (b || false) ≡ b
      or-false true = refl
      or-false false = refl

      kept : (k : ℕ) (t : Bool) → has_bit others k ≡ t → (has_bit old k || has_bit others k) ≡ has_bit old k
      kept k true e =
          let is : IsTrue (has_bit old k) = kept-has old others k (none (k / 64) (omega arith) (inside k e)) e in
          rw is refl
      kept k false e = rw e (or-false (has_bit old k))

  pub joined-grew : IsTrue grew ↔ (bits_of new 0 n ≢ bits_of old 0 n)
  joined-grew = (to grew refl, from grew refl)
    where
      to : (g : Bool) → grew ≡ g → IsTrue grew → bits_of new 0 n ≢ bits_of old 0 n
      to true e is = λ same.
          let some : SomeGrow old others 0 (length old) = subst (GrowBetween old others 0 (length old)) e joined.grow in
          some.grows (includes-kept old others some.at (small some.at) (had same))
      to false e is = absurd (let no : false ≡ true = sym e ∙ is in cc)

      from : (g : Bool) → grew ≡ g → bits_of new 0 n ≢ bits_of old 0 n → IsTrue grew
      from true e differs = e
      from false e differs = absurd (differs (stays e))

-- what words that no more words are joined into mean
or-false : (b : Bool) → (b || false) ≡ b
or-false true = refl
or-false false = refl

pub included-bits : (old others new : List ℕ) (grew : Bool) → AreJoined old others new 0 (length others) grew → (k : ℕ) → has_bit new k ≡ (has_bit old k || has_bit others k)
included-bits old others new grew joined k = ⊎_elim
    (λ (lt : k / 64 < length others). joined-bit old others new k (joined.joined (k / 64) (omega arith) lt))
    (λ (ge : length others ≤ k / 64).
    ap (λ w. bit_at w (k % 64) == 1) (joined.after (k / 64) ge) ∙ sym (ap (λ b. has_bit old k || b) (bit-beyond others k ge) ∙ or-false (has_bit old k)))
    (cases_lt (k / 64) (length others))

-- what words that keep the bits of others mean
pub met-bits : (old others new : List ℕ) → length others ≡ length old → AreWordsMet old others new (length old) → (k : ℕ) → has_bit new k ≡ (has_bit old k && has_bit others k)
met-bits old others new count met k = ⊎_elim
    (λ (lt : k / 64 < length old). met-bit old others new k (met.met (k / 64) lt))
    (λ (ge : length old ≤ k / 64). rw (bit-beyond new k (omega (arith, ge, met.count)), bit-beyond old k ge) refl)
    (cases_lt (k / 64) (length old))

-- what comparing words means
module _ (n : ℕ) (words others : List ℕ) (covers : Bool) (count : length others ≡ length words) (small : (j : ℕ) → word others j < 2 ^ 64)
    (clear : (k : ℕ) → n ≤ k → has_bit words k ≡ false) (clear' : (k : ℕ) → n ≤ k → has_bit others k ≡ false)
    (grow : GrowBetween words others 0 (length words) (not covers)) where
  pub covers-values : IsTrue covers ↔ Includes (bits_of words 0 n) (bits_of others 0 n)
  covers-values = (to covers refl, from covers refl)
    where
      to : (t : Bool) → covers ≡ t → IsTrue covers → Includes (bits_of words 0 n) (bits_of others 0 n)
      to false e is = absurd (let no : false ≡ true = sym e ∙ is in cc)
      to true e is = λ k there.
          let none : GrowBetween words others 0 (length words) false = subst (λ t. GrowBetween words others 0 (length words) (not t)) e grow in
          let bit : IsTrue (has_bit others k) = subst IsTrue (bits-all others n clear' k) there in
          subst IsTrue (sym (bits-all words n clear k)) (⊎_elim
          (λ (lt : k / 64 < length words). kept-has words others k (none (k / 64) (omega arith) lt) bit)
          (λ (ge : length words ≤ k / 64). absurd (let no : false ≡ true = sym (bit-beyond others k (omega (arith, ge, count))) ∙ bit in cc))
          (cases_lt (k / 64) (length words)))

      from : (t : Bool) → covers ≡ t → Includes (bits_of words 0 n) (bits_of others 0 n) → IsTrue covers
      from true e includes = e
      from false e includes =
          let some : SomeGrow words others 0 (length words) = subst (λ t. GrowBetween words others 0 (length words) (not t)) e grow in
          absurd (some.grows (includes-kept words others some.at (small some.at) (λ k there.
          subst IsTrue (bits-all words n clear k) (includes k (subst IsTrue (sym (bits-all others n clear' k)) there)))))

-- the least number that others, below a bound of their own, lack
pub first-beyond : (n m : ℕ) (words others : List ℕ) (from : ℕ) (found : Option ℕ) → ((k : ℕ) → n ≤ k → has_bit words k ≡ false) →
    ((k : ℕ) → m ≤ k → has_bit others k ≡ false) → FirstNew words others from n found → FirstBeyond (bits_of words 0 n) (bits_of others 0 m) from found
first-beyond n m words others from None clear clear' new = λ k ge lt there.
    subst IsTrue (sym (bits-all others m clear' k)) (new k ge (omega (arith, lt, length-bits words 0 n)) (subst IsTrue (bits-all words n clear k) there))
first-beyond n m words others from (Some i) clear clear' new = record {
  from_on = new.from_on;
  inside = omega (arith, new.inside, length-bits words 0 n);
  there = subst IsTrue (sym (bits-all words n clear i)) new.there;
  missing = bits-all others m clear' i ∙ new.missing;
  before = λ k ge lt there. subst IsTrue (sym (bits-all others m clear' k)) (new.before k ge lt (subst IsTrue (bits-all words n clear k) there));
}

-- the least number, where there are no others
none-has : (k : ℕ) → has [] k ≡ false
none-has k = refl

module _ (n : ℕ) (words : List ℕ) (clear : (k : ℕ) → n ≤ k → has_bit words k ≡ false) where
  no-others : (k : ℕ) → IsTrue (has_bit [] k) → IsTrue (has [] k)
  no-others k there = none-has k ∙ (sym (bit-beyond [] k (omega arith)) ∙ there)

  pub first-alone : (from : ℕ) (found : Option ℕ) → FirstNew words [] from n found → FirstBeyond (bits_of words 0 n) [] from found
  first-alone from None new = λ k ge lt there.
      no-others k (new k ge (omega (arith, lt, length-bits words 0 n)) (subst IsTrue (bits-all words n clear k) there))
  first-alone from (Some i) new = record {
    from_on = new.from_on;
    inside = omega (arith, new.inside, length-bits words 0 n);
    there = subst IsTrue (sym (bits-all words n clear i)) new.there;
    missing = none-has i;
    before = λ k ge lt there. no-others k (new.before k ge lt (subst IsTrue (bits-all words n clear k) there));
  }

-- two rows whose values are as many have the same bound
pub bounds-same : (a b : List ℕ) (n m : ℕ) (xs ys : List Bool) → bits_of a 0 n ≡ xs → bits_of b 0 m ≡ ys → length xs ≡ length ys → m ≡ n
bounds-same a b n m xs ys e e' same =
    sym (length-bits b 0 m) ∙ (ap length e' ∙ (sym same ∙ (ap length (sym e) ∙ length-bits a 0 n)))

pub bound-most : (a b : List ℕ) (n m : ℕ) (xs ys : List Bool) → bits_of a 0 n ≡ xs → bits_of b 0 m ≡ ys → length ys ≤ length xs → m ≤ n
bound-most a b n m xs ys e e' most = omega (arith, most, ap length e, ap length e', length-bits a 0 n, length-bits b 0 m)

-- two rows of one bound that include each other are the same
pub includes-both : (row other : List Bool) → length row ≡ length other → Includes row other → Includes other row → row ≡ other
includes-both row other same more less = ext_get_or false row other same (λ k lt. each (has row k) (has other k) (less k) (more k))
  where
    each : (a b : Bool) → (IsTrue a → IsTrue b) → (IsTrue b → IsTrue a) → a ≡ b
    each true true to from = refl
    each true false to from = absurd (let no = to refl in cc)
    each false true to from = absurd (let no = from refl in cc)
    each false false to from = refl

pub below-bound : (a : List ℕ) (n i : ℕ) (xs : List Bool) → bits_of a 0 n ≡ xs → i < length xs → i < n
below-bound a n i xs e h = subst (λ k. i < k) (ap length (sym e) ∙ length-bits a 0 n) h

-- the word of a number below the bound is there
pub word-there : (words : List ℕ) (n i : ℕ) (xs : List Bool) → bits_of words 0 n ≡ xs → i < length xs → length words ≡ n / 64 + 1 → i / 64 < length words
word-there words n i xs e h enough = let below = below-bound words n i xs e h in omega (arith, below, enough)

-- the words of a row were joined into those of another one with the same bound
pub record AreRowsJoined (n : ℕ) (words others new : List ℕ) (ys : List Bool) (grew : Bool) : Type 0 where
  pub count : length others ≡ length words
  pub small : AreWords others
  pub clear : (k : ℕ) → n ≤ k → has_bit others k ≡ false
  pub joined : AreJoined words others new 0 (length words) grew
  pub view : bits_of others 0 n ≡ ys

pub rows-joined : (words others target source new : List ℕ) (grew : Bool) (n m : ℕ) (xs ys : List Bool) → bits_of words 0 n ≡ xs → bits_of others 0 m ≡ ys → length xs ≡ length ys
    → length words ≡ n / 64 + 1 → length others ≡ m / 64 + 1 → ((k : ℕ) → m ≤ k → has_bit others k ≡ false)
    → target ≡ words → source ≡ others → AreWords source → AreJoined target source new 0 (length source) grew → AreRowsJoined n words others new ys grew
rows-joined words others target source new grew n m xs ys e e' long enough enough' clear target_is source_is small joined =
    let same = bounds-same words others n m xs ys e e' long in
    let count : length others ≡ length words = enough' ∙ (ap (λ k. k / 64 + 1) same ∙ sym enough) in
    record {
      count = count;
      small = subst AreWords source_is small;
      clear = λ k ge. clear k (subst (λ b. b ≤ k) (sym same) ge);
      joined = subst (λ k. AreJoined words others new 0 k grew) count
          (subst (λ one. AreJoined one others new 0 (length others) grew) target_is
          (subst (λ one. AreJoined target one new 0 (length one) grew) source_is joined));
      view = ap (bits_of others 0) (sym same) ∙ e';
    }
