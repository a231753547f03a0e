-- Steps of a reading that went well, and numbers and bytes that were read or are read again.
use Rattle.std.proofs.Common.{◌≡◌, ℕ, suc, ◌+◌, ◌^◌, ◌<◌, ◌≤◌, Bool, true, false, cond, ltb, List, ◌∷◌, ◌++◌, length, get_or, take, drop, Result, Ok, Err, refl, sym, ap, ◌∙◌, inl, inr, arith}
use Rattle.std.specs.Int.{w32, from_be_bytes, to_be_bytes}
use Rattle.std.proofs.lemmas.Bool.{cases_lt, ltb-false, le-ltb}
use Rattle.std.proofs.lemmas.List.{take_at, drop_at, take-append-drop, length-append, length-take, get_or-drop, get_or-take, get_or_past}
use Rattle.std.proofs.lemmas.Nat.{be_bytes_4, from_be_bytes-to_be_bytes_4}
use Rattle.modules.specs.declared.fault.ReadRefusal.{ReadRefusal}
use Rattle.modules.specs.ByteFormat.{short, ◌>>=◌, number_at, bytes_at}

-- each element is a byte
pub record IsBytes (bytes : List ℕ) : Type 0 where
  pub below : (i : ℕ) → get_or bytes i 0 < 256

pub bytes_dropped : (n : ℕ) (bytes : List ℕ) → IsBytes bytes → IsBytes (drop n bytes)
bytes_dropped n bytes h = record { below = λ i. rw get_or-drop (h.below (n + i)) }

pub bytes_taken : (n : ℕ) (bytes : List ℕ) → IsBytes bytes → IsBytes (take n bytes)
bytes_taken n bytes h = record {
  below = λ i. elim (cases_lt i n) [
    | inl inside ↦ rw (get_or-take n bytes i 0 inside) (h.below i)
    | inr outside ↦ rw (get_or_past (take n bytes) i 0 (omega (arith, length-take n bytes))) (omega arith)
  ];
}

pub bytes_rest : (b : ℕ) (bytes : List ℕ) → IsBytes (b ∷ bytes) → IsBytes bytes
bytes_rest b bytes h = record { below = λ i. h.below (suc i) }

-- the value of a first step that went well
pub step : {A B : Type 0} (r : Result A ReadRefusal) (f : A → Result B ReadRefusal) (y : B) → (r >>= f) ≡ Ok y → (x : A) × (r ≡ Ok x) × (f x ≡ Ok y)
step (Ok x) f y e = (x, refl, e)
step (Err s) f y e = absurd cc

-- a test that went well
pub passed : {A : Type 0} (b : Bool) (r : Result A ReadRefusal) (s : ReadRefusal) (y : A) → cond b r (Err s) ≡ Ok y → (b ≡ true) × (r ≡ Ok y)
passed true r s y e = (refl, e)
passed false r s y e = absurd cc

-- a test for a fault that did not find one
pub spared : {A : Type 0} (b : Bool) (r : Result A ReadRefusal) (s : ReadRefusal) (y : A) → cond b (Err s) r ≡ Ok y → (b ≡ false) × (r ≡ Ok y)
spared true r s y e = absurd cc
spared false r s y e = (refl, e)

abbrev good : {A : Type 0} → A → Result A ReadRefusal
good x = Ok x

pub same_value : {A : Type 0} (x y : A) → good x ≡ good y → x ≡ y
same_value x y e = cc

-- ---- bytes and numbers that were read

pub record Took (bytes text rest : List ℕ) : Type 0 where
  pub joined : bytes ≡ text ++ rest
  pub after : IsBytes rest

pub bytes_taken_at : (n : ℕ) (bytes text rest : List ℕ) → IsBytes bytes → bytes_at n bytes ≡ Ok (text, rest) → Took bytes text rest × (length text ≡ n) × IsBytes text
bytes_taken_at n bytes text rest fits e =
    let s = spared (ltb (length bytes) n) (good (take n bytes, drop n bytes)) short (text, rest) e in
    let long : n ≤ length bytes = ltb-false _ _ s.0 in
    let both = same_value (take n bytes, drop n bytes) (text, rest) s.1 in
    let text-is : take n bytes ≡ text = ap (λ (p : List ℕ × List ℕ). p.0) both in
    let rest-is : drop n bytes ≡ rest = ap (λ (p : List ℕ × List ℕ). p.1) both in
    (record { joined = rw (← text-is, ← rest-is) (sym (take-append-drop n bytes)); after = rw (← rest-is) (bytes_dropped n bytes fits) }, rw (← text-is) (omega (arith, length-take n bytes)), rw (← text-is) (bytes_taken n bytes fits))

pub number_taken_at : (bytes : List ℕ) (n : ℕ) (rest : List ℕ) → IsBytes bytes → number_at bytes ≡ Ok (n, rest) → Took bytes (to_be_bytes w32 n) rest × (n < 2 ^ 32)
number_taken_at bytes n rest fits e =
    let s = spared (ltb (length bytes) 4) (good (from_be_bytes w32 (take 4 bytes), drop 4 bytes)) short (n, rest) e in
    let long : 4 ≤ length bytes = ltb-false _ _ s.0 in
    let both = same_value (from_be_bytes w32 (take 4 bytes), drop 4 bytes) (n, rest) s.1 in
    let n-is : from_be_bytes w32 (take 4 bytes) ≡ n = ap (λ (p : ℕ × List ℕ). p.0) both in
    let rest-is : drop 4 bytes ≡ rest = ap (λ (p : ℕ × List ℕ). p.1) both in
    let front = bytes_taken 4 bytes fits in
    let four : length (take 4 bytes) ≡ 4 = omega (arith, length-take 4 bytes) in
    let text : to_be_bytes w32 n ≡ take 4 bytes = be_bytes_4 (take 4 bytes) n four front.below (sym n-is) in
    let small : from_be_bytes w32 (take 4 bytes) < 2 ^ 32 = omega (arith, front.below 0, front.below 1, front.below 2, front.below 3) in
    (record { joined = sym (take-append-drop 4 bytes) ∙ ap (λ (t : List ℕ). t ++ drop 4 bytes) (sym text) ∙ ap (λ (t : List ℕ). to_be_bytes w32 n ++ t) rest-is; after = rw (← rest-is) (bytes_dropped 4 bytes fits) }, rw (← n-is) small)

-- ---- bytes and numbers that are read again

pub bytes_again : (text rest : List ℕ) (n : ℕ) → length text ≡ n → bytes_at n (text ++ rest) ≡ Ok (text, rest)
bytes_again text rest n len =
    let long : ltb (length (text ++ rest)) n ≡ false = le-ltb _ _ (omega (arith, length-append text rest)) in
    rw (long, take_at text rest n len, drop_at text rest n len) refl

four_again : (text rest : List ℕ) (n : ℕ) → length text ≡ 4 → from_be_bytes w32 text ≡ n → number_at (text ++ rest) ≡ Ok (n, rest)
four_again text rest n len value =
    let long : ltb (length (text ++ rest)) 4 ≡ false = le-ltb _ _ (omega (arith, length-append text rest)) in
    rw (long, take_at text rest 4 len, drop_at text rest 4 len, value) refl

pub number_again : (n : ℕ) (rest : List ℕ) → n < 2 ^ 32 → number_at (to_be_bytes w32 n ++ rest) ≡ Ok (n, rest)
number_again n rest small = four_again (to_be_bytes w32 n) rest n refl (from_be_bytes-to_be_bytes_4 n small)
