-- What parsing a word of a world gives.
use Rattle.std.proofs.Common.{◌≡◌, ◌≢◌, ℕ, zero, suc, ◌<◌, ◌≤◌, ◌^◌, Bool, true, false, cond, eqb, not, List, [], ◌∷◌, length, get_or, Option, Some, None, Result, Ok, Err, ℤ, pos, neg_ℤ, refl, ap, subst, arith, rules}
use Rattle.std.specs.Result.{OkIff, result_ok}
use Rattle.std.specs.List.{list_all}
use Rattle.std.specs.Char.{is_ascii_digit}
use Rattle.std.specs.Int.{w32}
use Rattle.std.specs.Str.Parse.{ParsesSigned, digits_value}
use Rattle.std.proofs.lemmas.Bool.{and_parts}
use Rattle.std.proofs.lemmas.Bool.Decides.{nat_tests}
use Rattle.std.proofs.lemmas.Str.Parse.{IsNumeralModel, numerals_by_value, parse_signed_minus, parse_signed_plain}
use Rattle.channels.specs.WorldText.{is_digits, is_number, number_of, is_int}

own : IsNumeralModel (λ ds. list_all is_ascii_digit ds ≡ true) (digits_value 10)
own = numerals_by_value (λ ds. list_all is_ascii_digit ds ≡ true) (search rules)

-- what a result that parses says, where its condition is that the number has 32 bits
of_parse : {E : Type 0} (r : Result ℤ E) (z : ℤ) (Q : Type 0) → OkIff r Q z → (is_int z ≡ true → Q) → (Q → is_int z ≡ true) → result_ok r ≡ cond (is_int z) (Some z) None
of_parse (Ok x) z Q h to from =
    let fits : is_int z ≡ true = from h.0 in
    rw fits (ap Some h.1)
of_parse (Err e) z Q h to from = go (is_int z) to
  where
    go : (b : Bool) → (b ≡ true → Q) → ◌≡◌ {A = Option ℤ} None (cond b (Some z) None)
    go true f = absurd (h (f refl))
    go false f = refl

negative_fits : (n : ℕ) → n ≤ 2 ^ 31 → is_int (neg_ℤ (pos n)) ≡ true
negative_fits zero h = refl
negative_fits (suc n) h = grind (arith, nat_tests)

fits_negative : (n : ℕ) → is_int (neg_ℤ (pos n)) ≡ true → n ≤ 2 ^ 31
fits_negative zero h = omega arith
fits_negative (suc n) h = grind (arith, nat_tests)

positive_fits : (n : ℕ) → n < 2 ^ 31 → is_int (pos n) ≡ true
positive_fits n h = grind (arith, nat_tests)

fits_positive : (n : ℕ) → is_int (pos n) ≡ true → n < 2 ^ 31
fits_positive n h = grind (arith, nat_tests)

-- what parsing a word that writes a number gives
pub number_gives : {E : Type 0} (word : List ℕ) (r : Result ℤ E) → is_number word ≡ true → ParsesSigned w32 10 word r → result_ok r ≡ cond (is_int (number_of word)) (Some (number_of word)) None
number_gives [] r w h = absurd (let no : false ≡ true = w in cc)
number_gives (byte ∷ bytes) r w h = go (eqb byte 45) refl
  where
    go : (b : Bool) → eqb byte 45 ≡ b → result_ok r ≡ cond (is_int (number_of (byte ∷ bytes))) (Some (number_of (byte ∷ bytes))) None
    go true e =
        let minus : byte ≡ 45 = grind (arith, nat_tests) in
        let digits : is_digits bytes ≡ true = rw e at w in
        let parts = and_parts (not (eqb (length bytes) 0)) (list_all is_ascii_digit bytes) digits in
        let some : not (eqb (length bytes) 0) ≡ true = parts.0 in
        let long : 0 < length bytes = grind (arith, nat_tests) in
        let said = parse_signed_minus own w32 (byte ∷ bytes) r h minus in
        rw e (of_parse r (neg_ℤ (pos (digits_value 10 bytes))) _ said (λ fits. (parts.1, long, fits_negative (digits_value 10 bytes) fits)) (λ q. negative_fits (digits_value 10 bytes) q.2))
    go false e =
        let plain : get_or (byte ∷ bytes) 0 0 ≢ 45 = λ same. let clash : eqb byte 45 ≡ true = grind (arith, nat_tests) in cc in
        let digits : is_digits (byte ∷ bytes) ≡ true = rw e at w in
        let parts = and_parts (not (eqb (length (byte ∷ bytes)) 0)) (list_all is_ascii_digit (byte ∷ bytes)) digits in
        let first : is_ascii_digit byte ≡ true = (and_parts (is_ascii_digit byte) (list_all is_ascii_digit bytes) parts.1).0 in
        let no_plus : get_or (byte ∷ bytes) 0 0 ≢ 43 = λ same. let clash : is_ascii_digit 43 ≡ true = subst (λ (b : ℕ). is_ascii_digit b ≡ true) same first in cc in
        let said = parse_signed_plain own w32 (byte ∷ bytes) r h no_plus plain in
        rw e (of_parse r (pos (digits_value 10 (byte ∷ bytes))) _ said (λ fits. (parts.1, omega arith, fits_positive (digits_value 10 (byte ∷ bytes)) fits)) (λ q. positive_fits (digits_value 10 (byte ∷ bytes)) q.2))
