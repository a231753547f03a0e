-- The truth values of a row in pieces are the bits of its pieces.
use Rattle.std.proofs.Common.{◌≡◌, refl, sym, ap, subst, ◌∙◌, ℕ, zero, suc, ◌<◌, ◌≤◌, ◌+◌, ◌-◌, ◌*◌, ◌/◌, ◌%◌, length, take, drop, min, List, [], Bool, true, false, arith, ⊎_elim, ◌||◌}
use Rattle.std.specs.Prelude.{IsTrue, ◌==◌, bit_or, None, Some}
use Rattle.std.specs.Int.{bit_at}
use Rattle.std.proofs.lemmas.Bool.{cases_lt}
use Rattle.std.proofs.lemmas.List.{ext_get_or, get_or-drop, get_or-take, get_or_past, length-drop, length-take, take_all}
use Rattle.labels.specs.Pieces.{has_piece_bit, piece_at, piece_bits}
use Rattle.labels.specs.Row.{FirstBeyond, has}
use Rattle.labels.specs.Words.{AreJoinedAt, FirstNew, IsWordPiece, has_bit, word}
use Rattle.labels.proofs.WordBits.{bit-beyond, word-beyond, word-joined-bit}

-- ---- the values of pieces
pub length-pieces : (pieces : List (List ℕ)) (i n : ℕ) → length (piece_bits pieces i n) ≡ n
length-pieces pieces i zero = refl
length-pieces pieces i (suc n) = omega (arith, length-pieces pieces (suc i) n)

pieces-from : (pieces : List (List ℕ)) (i n k : ℕ) → k < n → has (piece_bits pieces i n) k ≡ has_piece_bit pieces (i + k)
pieces-from pieces i zero k h = absurd (omega (arith, h))
pieces-from pieces i (suc n) zero h = ap (has_piece_bit pieces) (omega arith)
pieces-from pieces i (suc n) (suc k) h = pieces-from pieces (suc i) n k (omega (arith, h)) ∙ ap (has_piece_bit pieces) (omega arith)

pieces-beyond : (pieces : List (List ℕ)) (i n k : ℕ) → n ≤ k → has (piece_bits pieces i n) k ≡ false
pieces-beyond pieces i zero k h = refl
pieces-beyond pieces i (suc n) zero h = absurd (omega (arith, h))
pieces-beyond pieces i (suc n) (suc k) h = pieces-beyond pieces (suc i) n k (omega (arith, h))

pub pieces-at : (pieces : List (List ℕ)) (n k : ℕ) → k < n → has (piece_bits pieces 0 n) k ≡ has_piece_bit pieces k
pieces-at pieces n k h = pieces-from pieces 0 n k h ∙ ap (has_piece_bit pieces) (omega arith)

-- where no bit is set after the last number, the values are all the bits
pub pieces-all : (pieces : List (List ℕ)) (n : ℕ) → ((k : ℕ) → n ≤ k → has_piece_bit pieces k ≡ false) → (k : ℕ) → has (piece_bits pieces 0 n) k ≡ has_piece_bit pieces k
pieces-all pieces n clear k = ⊎_elim
    (pieces-at pieces n k)
    (λ (ge : n ≤ k). pieces-beyond pieces 0 n k ge ∙ sym (clear k ge))
    (cases_lt k n)

-- a number by its piece and its index there
pub in-piece : (pieces : List (List ℕ)) (p i : ℕ) → i < 2048 → has_piece_bit pieces (2048 * p + i) ≡ has_bit (piece_at pieces p) i
in-piece pieces p i h =
    let number : (2048 * p + i) / 2048 ≡ p = omega (arith, h) in
    let place : (2048 * p + i) % 2048 ≡ i = omega (arith, h) in
    rw (number, place) refl

-- ---- a piece of words
word-cut : (words : List ℕ) (first n j : ℕ) → j < n → word (take n (drop first words)) j ≡ word words (first + j)
word-cut words first n j h = get_or-take n (drop first words) j 0 h ∙ get_or-drop first words j 0

pub cut-none : (words : List ℕ) (number : ℕ) → length words / 32 < number → IsWordPiece words number []
cut-none words number past = record {
  each = λ j h. sym (word-beyond words (32 * number + j) (omega (arith, past)));
  short = omega arith;
  fits = λ most. omega (arith, most);
}

pub cut-some : (words rest piece : List ℕ) (number n : ℕ) → number ≤ length words / 32 → rest ≡ take (length words - number * 32) (drop (number * 32) words) → n ≡ min (length rest) 32 → piece ≡ take n rest → IsWordPiece words number piece
cut-some words rest piece number n inside whole n_is piece_is =
    let rest_is : rest ≡ drop (number * 32) words = whole ∙ take_all (length words - number * 32) (drop (number * 32) words) (omega (arith, length-drop (number * 32) words)) in
    let first : number * 32 ≡ 32 * number = omega arith in
    let is : piece ≡ take n (drop (32 * number) words) = piece_is ∙ (ap (take n) (rest_is ∙ ap (λ m. drop m words) first)) in
    let count : length piece ≡ n = ap length piece_is ∙ (length-take n rest ∙ omega (arith, n_is)) in
    let left : length rest ≡ length words - 32 * number = ap length (rest_is ∙ ap (λ m. drop m words) first) ∙ length-drop (32 * number) words in
    record {
      each = λ j h. ⊎_elim
          (λ (lt : j < n). ap (λ xs. word xs j) is ∙ word-cut words (32 * number) n j lt)
          (λ (ge : n ≤ j). word-beyond piece j (omega (arith, ge, count)) ∙ sym (word-beyond words (32 * number + j) (omega (arith, ge, n_is, left, h, inside))))
          (cases_lt j n);
      short = omega (arith, count, n_is);
      fits = λ most. omega (arith, most, count, n_is, left);
    }

-- the bits of a piece
pub cut-bits : (words piece : List ℕ) (number : ℕ) → IsWordPiece words number piece → (i : ℕ) → i < 2048 → has_bit piece i ≡ has_bit words (2048 * number + i)
cut-bits words piece number cut i h =
    let at : (2048 * number + i) / 64 ≡ 32 * number + i / 64 = omega (arith, h) in
    let place : (2048 * number + i) % 64 ≡ i % 64 = omega (arith, h) in
    ap (λ w. bit_at w (i % 64) == 1) (cut.each (i / 64) (omega (arith, h)) ∙ ap (word words) (sym at)) ∙ ap (λ k. bit_at (word words ((2048 * number + i) / 64)) k == 1) (sym place)

-- ---- words that are joined from an index on
module _ (old others new : List ℕ) (at : ℕ) (joined : AreJoinedAt old others new at (length others)) where
  pub at-before : (i : ℕ) → i < 64 * at → has_bit new i ≡ has_bit old i
  at-before i h = ap (λ w. bit_at w (i % 64) == 1) (joined.before (i / 64) (omega (arith, h)))

  pub at-from : (i : ℕ) → has_bit new (64 * at + i) ≡ (has_bit old (64 * at + i) || has_bit others i)
  at-from i =
      let number : (64 * at + i) / 64 ≡ at + i / 64 = omega arith in
      let place : (64 * at + i) % 64 ≡ i % 64 = omega arith in
      ⊎_elim
      (λ (lt : i / 64 < length others).
      let word_is : word new ((64 * at + i) / 64) ≡ bit_or (word old ((64 * at + i) / 64)) (word others (i / 64)) =
      ap (word new) number ∙ (joined.joined (i / 64) lt ∙ ap (λ j. bit_or (word old j) (word others (i / 64))) (sym number)) in
      or-bits (word new ((64 * at + i) / 64)) (word old ((64 * at + i) / 64)) (word others (i / 64)) ((64 * at + i) % 64) (i % 64) place word_is)
      (λ (ge : length others ≤ i / 64).
      ap (λ w. bit_at w ((64 * at + i) % 64) == 1) (joined.after ((64 * at + i) / 64) (omega (arith, ge)))
      ∙ sym (ap (λ b. has_bit old (64 * at + i) || b) (bit-beyond others i ge) ∙ or-false (has_bit old (64 * at + i))))
      (cases_lt (i / 64) (length others))
    where
      or-false : (b : Bool) → (b || false) ≡ b
      or-false true = refl
      or-false false = refl

      or-bits : (a b c k k' : ℕ) → k ≡ k' → a ≡ bit_or b c → (bit_at a k == 1) ≡ (bit_at b k == 1 || bit_at c k' == 1)
      or-bits a b c k k' same is =
          ap (λ x. bit_at x k == 1) is ∙ (word-joined-bit b c k ∙ ap (λ m. bit_at b k == 1 || bit_at c m == 1) same)

  -- no bit is set from a number on, where none was and no other is
  pub clear-at : (n : ℕ) → ((k : ℕ) → n ≤ k → has_bit old k ≡ false) → ((i : ℕ) → n ≤ 64 * at + i → has_bit others i ≡ false) → (k : ℕ) → n ≤ k → has_bit new k ≡ false
  clear-at n clear none k ge = ⊎_elim
      (λ (lt : k < 64 * at). at-before k lt ∙ clear k ge)
      (λ (le : 64 * at ≤ k).
      let is : 64 * at + (k - 64 * at) ≡ k = omega (arith, le) in
      ap (has_bit new) (sym is) ∙ (at-from (k - 64 * at) ∙ rw (clear (64 * at + (k - 64 * at)) (omega (arith, ge, is)), none (k - 64 * at) (omega (arith, ge, is))) refl))
      (cases_lt k (64 * at))

-- the values of a piece are those from its first number on
pub piece-values : (pieces : List (List ℕ)) (n p i : ℕ) (piece : List ℕ) (row : List Bool) → ((k : ℕ) → n ≤ k → has_piece_bit pieces k ≡ false) → piece_bits pieces 0 n ≡ row → piece ≡ piece_at pieces p
    → i < 2048 → has_bit piece i ≡ has row (2048 * p + i)
piece-values pieces n p i piece row clear is piece_is h =
    ap (λ xs. has_bit xs i) piece_is ∙ (sym (in-piece pieces p i h) ∙ (sym (pieces-all pieces n clear (2048 * p + i)) ∙ ap (λ xs. has xs (2048 * p + i)) is))

-- ---- a search piece by piece
-- nothing that is new in pieces up to a number
abbrev pub NoneBeyond : (row other : List Bool) → (from to : ℕ) → Type 0
NoneBeyond row other from to = (i : ℕ) → from ≤ i → i < to → IsTrue (has row i) → IsTrue (has other i)

module _ (row other : List Bool) (words others : List ℕ) (p count : ℕ) (short : count ≤ 2048)
    (mine : (i : ℕ) → i < 2048 → has_bit words i ≡ has row (2048 * p + i)) (its : (i : ℕ) → i < 2048 → has_bit others i ≡ has other (2048 * p + i)) where
  pub piece-none : (from at : ℕ) → at / 2048 ≡ p → NoneBeyond row other from at → FirstNew words others (at % 2048) count None → NoneBeyond row other from (2048 * p + count)
  piece-none from at number before none = λ i ge lt there. ⊎_elim
      (λ (h : i < at). before i ge h there)
      (λ (h : at ≤ i).
      let k = i - 2048 * p in
      let is : 2048 * p + k ≡ i = omega (arith, h, number) in
      let inside : k < 2048 = omega (arith, lt, short, h, number) in
      let bit : IsTrue (has_bit words k) = subst IsTrue (ap (has row) (sym is) ∙ sym (mine k inside)) there in
      subst IsTrue (its k inside ∙ ap (has other) is) (none k (omega (arith, h, number)) (omega (arith, lt, h, number)) bit))
      (cases_lt i at)

  pub piece-found : (n from at i : ℕ) → at / 2048 ≡ p → from ≤ at → n ≡ length row → 2048 * p + count ≤ n → NoneBeyond row other from at → FirstNew words others (at % 2048) count (Some i) → FirstBeyond row other from (Some (2048 * p + i))
  piece-found n from at i number most same inside before new =
      let small : i < 2048 = omega (arith, new.inside, short) in
      let from_on : at % 2048 ≤ i = new.from_on in
      record {
        from_on = omega (arith, most, number, from_on);
        inside = omega (arith, new.inside, same, inside);
        there = subst IsTrue (mine i small) new.there;
        missing = sym (its i small) ∙ new.missing;
        before = λ j ge lt there. ⊎_elim
            (λ (h : j < at). before j ge h there)
            (λ (h : at ≤ j).
            let k = j - 2048 * p in
            let is : 2048 * p + k ≡ j = omega (arith, h, number) in
            let below : k < 2048 = omega (arith, lt, small, h, number) in
            let bit : IsTrue (has_bit words k) = subst IsTrue (ap (has row) (sym is) ∙ sym (mine k below)) there in
            subst IsTrue (its k below ∙ ap (has other) is) (new.before k (omega (arith, h, number)) (omega (arith, lt, h, number)) bit))
            (cases_lt j at);
      }

-- a search that comes to the end
pub search-ended : (row other : List Bool) (from at n : ℕ) → n ≡ length row → n ≤ at → NoneBeyond row other from at → FirstBeyond row other from None
search-ended row other from at n same past none = λ i ge lt there. none i ge (omega (arith, lt, same, past)) there

-- beyond the pieces no bit is set
pub piece-past : (pieces : List (List ℕ)) (i : ℕ) → 2048 * length pieces ≤ i → has_piece_bit pieces i ≡ false
piece-past pieces i h = ap (λ xs. has_bit xs (i % 2048)) (get_or_past pieces (i / 2048) [] (omega (arith, h))) ∙ bit-beyond [] (i % 2048) (omega arith)

-- no bit of a piece is set beyond the last number
pub clear-piece : (pieces : List (List ℕ)) (n p i : ℕ) → ((k : ℕ) → n ≤ k → has_piece_bit pieces k ≡ false) → length (piece_at pieces p) ≤ 32 → n ≤ 2048 * p + i → has_bit (piece_at pieces p) i ≡ false
clear-piece pieces n p i clear short past = ⊎_elim
    (λ (lt : i < 2048). sym (in-piece pieces p i lt) ∙ clear (2048 * p + i) past)
    (λ (ge : 2048 ≤ i). bit-beyond (piece_at pieces p) i (omega (arith, ge, short)))
    (cases_lt i 2048)

pub or-none : (b : Bool) → (b || false) ≡ b
or-none true = refl
or-none false = refl

-- ---- pieces that are added to a row
module _ (old mid new row : List Bool) (piece : List ℕ) (p : ℕ) (short : length piece ≤ 32)
    (below : (i : ℕ) → i < 2048 * p → has mid i ≡ (has old i || has row i)) (above : (i : ℕ) → 2048 * p ≤ i → has mid i ≡ has old i)
    (before : (i : ℕ) → i < 64 * (p * 32) → has new i ≡ has mid i) (from : (i : ℕ) → has new (64 * (p * 32) + i) ≡ (has mid (64 * (p * 32) + i) || has_bit piece i))
    (mine : (i : ℕ) → i < 2048 → has_bit piece i ≡ has row (2048 * p + i)) where
  at-place : (i : ℕ) → 2048 * p ≤ i → has new i ≡ (has old i || has_bit piece (i - 2048 * p))
  at-place i ge =
      let k = i - 2048 * p in
      let is : 64 * (p * 32) + k ≡ i = omega (arith, ge) in
      ap (has new) (sym is) ∙ (from k ∙ ap (λ b. b || has_bit piece k) (ap (has mid) is ∙ above i ge))

  pub included-below : (i : ℕ) → i < 2048 * (p + 1) → has new i ≡ (has old i || has row i)
  included-below i h = ⊎_elim
      (λ (lt : i < 2048 * p). before i (omega (arith, lt)) ∙ below i lt)
      (λ (ge : 2048 * p ≤ i).
      let is : 2048 * p + (i - 2048 * p) ≡ i = omega (arith, ge) in
      at-place i ge ∙ ap (λ b. has old i || b) (mine (i - 2048 * p) (omega (arith, ge, h)) ∙ ap (has row) is))
      (cases_lt i (2048 * p))

  pub included-above : (i : ℕ) → 2048 * (p + 1) ≤ i → has new i ≡ has old i
  included-above i h =
      at-place i (omega (arith, h)) ∙ (ap (λ b. has old i || b) (bit-beyond piece (i - 2048 * p) (omega (arith, h, short))) ∙ or-none (has old i))

-- two rows of one bound with the same values are the same
pub rows-same : (row other : List Bool) (n : ℕ) → length row ≡ n → length other ≡ n → ((i : ℕ) → i < n → has row i ≡ has other i) → row ≡ other
rows-same row other n count count' each = ext_get_or false row other (count ∙ sym count') (λ i lt. each i (omega (arith, lt, count)))
