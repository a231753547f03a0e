-- The classes of characters: each character is in one.
use Rattle.std.proofs.Common.{◌≡◌, ℕ, ◌<◌, ◌==◌, ◌&&◌, ◌||◌, Bool, true, false, not, cond, refl, sym, ap, subst, ◌∙◌, inl, inr, arith}
use Rattle.std.proofs.lemmas.Bool.{cases_lt, and_parts, or_parts, ltb-true, agree_below_at, not-true, cond-true, cond-false}
use Rattle.std.proofs.lemmas.Bool.Decides.{nat_tests}
use Rattle.std.specs.Prelude.{nat_lt}
use Rattle.std.specs.Char.{is_ascii, is_ascii_digit, is_ascii_alphabetic, is_ascii_alphanumeric, is_ascii_lowercase}
use Rattle.unicode_ident.proofs.IdentLemmas.{is_xid_start-ascii, is_xid_continue-ascii}
use Rattle.lexer.specs.Words.{is_white_space, may_begin}
use Rattle.unicode_ident.specs.Ident.{is_xid_continue}

-- a character by what a lexeme that begins with it may be
pub data Class : Type 0 where
  White : Class
  Digit : Class
  Letter : Class
  Solidus : Class
  Other : Class

abbrev pub class_of : ℕ → Class
class_of c =
    cond (is_white_space c) White
    (cond (is_ascii_digit c) Digit (cond (may_begin c) Letter (cond (c == 47) Solidus Other)))

-- what may begin a name, among the first 128 characters
abbrev pub begins_ascii : ℕ → Bool
begins_ascii c = is_ascii_alphabetic c || c == 95

pub may_begin-ascii : (c : ℕ) → c < 128 → may_begin c ≡ begins_ascii c
may_begin-ascii c h = ap (λ b. b || c == 95) (is_xid_start-ascii c h)

-- white space begins no name, nor does a digit
begun_elsewhere : (c : ℕ) → may_begin c ≡ true → (is_white_space c || is_ascii_digit c) ≡ false
begun_elsewhere c begun =
    elim (cases_lt c 128) [
      | inl small ↦
          let letter : begins_ascii c ≡ true = sym (may_begin-ascii c small) ∙ begun in
          let apart : (not (begins_ascii c) || not (is_white_space c || is_ascii_digit c)) ≡ true =
          agree_below_at (λ x. not (begins_ascii x) || not (is_white_space x || is_ascii_digit x)) (λ x. true) 128 c refl small in
          not-true _ (subst (λ b. (not b || not (is_white_space c || is_ascii_digit c)) ≡ true) letter apart)
      | inr large ↦ grind (arith, nat_tests)
    ]

pub class-White : (c : ℕ) → is_white_space c ≡ true → class_of c ≡ White
class-White c h = cond-true (is_white_space c) _ _ h

pub class-Digit : (c : ℕ) → is_ascii_digit c ≡ true → class_of c ≡ Digit
class-Digit c h =
    let dark : is_white_space c ≡ false = grind (arith, nat_tests) in
    cond-false (is_white_space c) _ _ dark ∙ cond-true (is_ascii_digit c) _ _ h

pub class-Letter : (c : ℕ) → may_begin c ≡ true → class_of c ≡ Letter
class-Letter c h =
    let none = begun_elsewhere c h in
    let dark : is_white_space c ≡ false = grind (arith, nat_tests) in
    let plain : is_ascii_digit c ≡ false = grind (arith, nat_tests) in
    cond-false (is_white_space c) _ _ dark ∙ (cond-false (is_ascii_digit c) _ _ plain ∙ cond-true (may_begin c) _ _ h)

-- an ASCII character with which a name goes on begins one, unless it is a digit
pub part_begins : (c : ℕ) → (nat_lt c 128 && is_xid_continue c) ≡ true → is_ascii_digit c ≡ false → may_begin c ≡ true
part_begins c part plain =
    let (ascii, continues) = and_parts (nat_lt c 128) (is_xid_continue c) part in
    let small : c < 128 = ltb-true c 128 ascii in
    let either : (is_ascii_alphanumeric c || (c == 95)) ≡ true = sym (is_xid_continue-ascii c small) ∙ continues in
    let letter : begins_ascii c ≡ true = grind (arith, nat_tests) in
    may_begin-ascii c small ∙ letter

-- an ASCII character with which no name goes on begins none, and is no digit
pub apart_begins : (c : ℕ) → c < 128 → is_xid_continue c ≡ false → (is_ascii_digit c ≡ false) × (may_begin c ≡ false)
apart_begins c small apart =
    let neither : (is_ascii_alphanumeric c || (c == 95)) ≡ false = sym (is_xid_continue-ascii c small) ∙ apart in
    let plain : is_ascii_digit c ≡ false = grind (arith, nat_tests) in
    let no_letter : begins_ascii c ≡ false = grind (arith, nat_tests) in
    (plain, may_begin-ascii c small ∙ no_letter)

-- a character that may begin a sign other than `/`
abbrev pub is_sign_first : ℕ → Bool
is_sign_first c = not (is_white_space c || is_ascii_digit c || begins_ascii c || c == 47) && is_ascii c

pub class-Other : (c : ℕ) → is_sign_first c ≡ true → class_of c ≡ Other
class-Other c h =
    let (elsewhere, ascii) = and_parts _ _ h in
    let small : c < 128 = ltb-true c 128 ascii in
    let (plain, not_solidus) = or_parts _ _ (not-true _ elsewhere) in
    let (neither, not_letter) = or_parts _ _ plain in
    let (dark, not_digit) = or_parts _ _ neither in
    let not_begun : may_begin c ≡ false = may_begin-ascii c small ∙ not_letter in
    cond-false (is_white_space c) _ _ dark
    ∙ (cond-false (is_ascii_digit c) _ _ not_digit
    ∙ (cond-false (may_begin c) _ _ not_begun ∙ cond-false (c == 47) _ _ not_solidus))

pub class-Solidus : class_of 47 ≡ Solidus
class-Solidus = cond-false (may_begin 47) _ _ (may_begin-ascii 47 (omega arith))

lowercase_small : (c : ℕ) → is_ascii_lowercase c ≡ true → c < 128
lowercase_small c h = grind (arith, nat_tests)

-- a lowercase ASCII letter begins a name, and goes on with one
pub lowercase_begins : (c : ℕ) → is_ascii_lowercase c ≡ true → may_begin c ≡ true
lowercase_begins c h =
    let small : c < 128 = lowercase_small c h in
    let letter : begins_ascii c ≡ true = grind (arith, nat_tests) in
    may_begin-ascii c small ∙ letter

pub lowercase_continues : (c : ℕ) → is_ascii_lowercase c ≡ true → is_xid_continue c ≡ true
lowercase_continues c h =
    let small : c < 128 = lowercase_small c h in
    let letter : (is_ascii_alphanumeric c || (c == 95)) ≡ true = grind (arith, nat_tests) in
    is_xid_continue-ascii c small ∙ letter
