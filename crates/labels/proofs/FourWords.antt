-- Four words that are compared with their unions at once, and a union that is stored.
use Rattle.std.proofs.Common.{◌≡◌, refl, sym, ap, subst, ◌∙◌, ℕ, zero, suc, ◌<◌, ◌≤◌, ◌+◌, ◌-◌, ◌%◌, ◌^◌, length, get_or, List, Bool, true, false, arith, nat_eq, ◌≢◌, [], ◌∷◌, not}
use Rattle.std.specs.Prelude.{bit_or}
use Rattle.std.proofs.lemmas.Bool.{eqb-true, eqb-false, eq-eqb}
use Rattle.std.proofs.lemmas.Simd.{length-chunk, length-zip2, get_or-chunk, get_or-zip2, mask_l-mod, length-put_chunk, get_or-put_chunk_below, get_or-put_chunk_at, get_or-put_chunk_above}
use lib.Lanes.{zip2, mask_l, chunk, put_chunk}
use Rattle.labels.specs.Words.{AreJoined, GrowBetween, WordStays, word}

-- a number without a bit, and one with some bit
none-set : (ms : List Bool) (i : ℕ) → mask_l ms ≡ 0 → get_or ms i false ≡ false
none-set [] i e = refl
none-set (true ∷ ms) i e = absurd (omega (arith, e))
none-set (false ∷ ms) zero e = refl
none-set (false ∷ ms) (suc i) e = none-set ms i (omega (arith, e))

record IsSet (ms : List Bool) : Type 0 where
  i : ℕ
  inside : i < length ms
  set : get_or ms i false ≡ true

some-set : (ms : List Bool) → mask_l ms ≢ 0 → IsSet ms
some-set [] e = absurd (e refl)
some-set (true ∷ ms) e = record { i = 0; inside = omega arith; set = refl }
some-set (false ∷ ms) e = let more = some-set ms (λ z. e (omega (arith, z))) in record { i = suc more.i; inside = omega (arith, more.inside); set = more.set }

module _ (words others : List ℕ) (at : ℕ) (room : at + 4 ≤ length words) (room' : at + 4 ≤ length others) where
  abbrev pub before : List ℕ
  before = chunk at 4 words

  abbrev pub joined : List ℕ
  joined = zip2 bit_or before (chunk at 4 others)

  long : length before ≡ 4
  long = length-chunk at 4 words room

  long-joined : length joined ≡ 4
  long-joined = length-zip2 bit_or before (chunk at 4 others) (long ∙ sym (length-chunk at 4 others room')) ∙ long

  abbrev pub differences : List Bool
  differences = zip2 (λ a b. not (nat_eq a b)) joined before

  union-at : (k : ℕ) → k < 4 → get_or joined k 0 ≡ bit_or (word words (at + k)) (word others (at + k))
  union-at k lt =
      let here : get_or before k 0 ≡ word words (at + k) = get_or-chunk at 4 words k 0 lt in
      let there : get_or (chunk at 4 others) k 0 ≡ word others (at + k) = get_or-chunk at 4 others k 0 lt in
      get_or-zip2 bit_or before (chunk at 4 others) k 0 0 0 (omega (arith, long, lt)) (omega (arith, length-chunk at 4 others room', lt))
      ∙ (ap (λ x. bit_or x (get_or (chunk at 4 others) k 0)) here ∙ ap (bit_or (word words (at + k))) there)

  difference-at : (k : ℕ) → k < 4 → get_or differences k false ≡ not (nat_eq (bit_or (word words (at + k)) (word others (at + k))) (word words (at + k)))
  difference-at k lt =
      get_or-zip2 (λ a b. not (nat_eq a b)) joined before k 0 0 false (omega (arith, long-joined, lt)) (omega (arith, long, lt))
      ∙ (ap (λ x. not (nat_eq x (get_or before k 0))) (union-at k lt)
      ∙ ap (λ x. not (nat_eq (bit_or (word words (at + k)) (word others (at + k))) x)) (get_or-chunk at 4 words k 0 lt))

  kept-from : (a b : ℕ) → not (nat_eq a b) ≡ false → a ≡ b
  kept-from a b e = go (nat_eq a b) refl
    where
      go : (t : Bool) → nat_eq a b ≡ t → a ≡ b
      go true is = eqb-true a b is
      go false is = absurd (let no : true ≡ false = ap not (sym is) ∙ e in cc)

  grown-from : (a b : ℕ) → not (nat_eq a b) ≡ true → a ≢ b
  grown-from a b e is = let same : nat_eq a b ≡ true = eq-eqb a b is in let no : false ≡ true = ap not (sym same) ∙ e in absurd (cc)

  length-differences : length differences ≡ 4
  length-differences = length-zip2 (λ a b. not (nat_eq a b)) joined before (long-joined ∙ sym long) ∙ long-joined

  compared : (t : Bool) → nat_eq (mask_l differences) 0 ≡ t → GrowBetween words others at (at + 4) (not t)
  compared true e = λ j from to.
      let k = j - at in
      let is : at + k ≡ j = omega (arith, from) in
      let inside : k < 4 = omega (arith, from, to) in
      subst (WordStays words others) is (kept-from _ _ (sym (difference-at k inside) ∙ none-set differences k (eqb-true (mask_l differences) 0 e)))
  compared false e =
      let some = some-set differences (eqb-false (mask_l differences) 0 e) in
      let inside : some.i < 4 = omega (arith, some.inside, length-differences) in
      record {
        at = at + some.i;
        from = omega arith;
        to = omega (arith, inside);
        grows = grown-from _ _ (sym (difference-at some.i inside) ∙ some.set);
      }

  pub four-grow : (mask : ℕ) → mask ≡ mask_l differences % 2 ^ 64 → GrowBetween words others at (at + 4) (not (nat_eq mask 0))
  four-grow mask is =
      compared (nat_eq mask 0) (ap (λ x. nat_eq x 0) (sym (is ∙ mask_l-mod differences 64 (omega (arith, length-differences)))))

  pub four-joined : (grew : Bool) → GrowBetween words others at (at + 4) grew → AreJoined words others (put_chunk at words joined) at (at + 4) grew
  four-joined grew grow = record {
    count = length-put_chunk at words joined;
    joined = λ j from to.
        let k = j - at in
        let is : at + k ≡ j = omega (arith, from) in
        let inside : k < 4 = omega (arith, from, to) in
        subst (λ i. word (put_chunk at words joined) i ≡ bit_or (word words i) (word others i)) is
        (get_or-put_chunk_at at words joined k 0 (omega (arith, inside, long-joined)) (omega (arith, room, long-joined)) ∙ union-at k inside);
    before = λ j lt. get_or-put_chunk_below at words joined j 0 lt;
    after = λ j ge. get_or-put_chunk_above at words joined j 0 (omega (arith, ge, long-joined));
    grow = grow;
  }
