-- One step over the characters of a text, and the functions of the scanner there.
use Rattle.std.proofs.Common.{◌≡◌, ◌≢◌, ℕ, ◌+◌, ◌-◌, ◌<◌, ◌≤◌, ◌==◌, ◌&&◌, ◌||◌, not, Bool, true, false, cond, List, [], ◌∷◌, ◌++◌, Some, length, drop, get_or, suc, take, refl, sym, ap, subst, ◌∙◌, inl, inr, arith, length-append}
use Rattle.std.proofs.lemmas.Bool.{and_parts, cases_lt, cond-true, cond-false, ltb-true}
use Rattle.std.specs.Prelude.{nat_lt}
use Rattle.std.proofs.lemmas.Str.{chars-nil, chars_past_char, IsUtf8-past_char, length-encode, len_utf8_bounds, encodes-chars, encodes-append, IsCharBoundary-after_ascii, IsCharBoundary-at_seam, IsUtf8-drop, IsUtf8-take, chars-append, encode_ascii}
use Rattle.std.proofs.Math.Seq.{drop-cons}
use Rattle.std.proofs.lemmas.List.{take-append-le, take_all}
use Rattle.std.specs.Char.{encode_utf8, is_ascii_digit}
use Rattle.std.specs.Str.{chars, IsUtf8, IsCharBoundary, encode_utf8_all}
use Rattle.lexer.specs.Scan.{after_run, after_close, begins_sign, holds, IsStopped, IsTail, Stops}
use Rattle.lexer.specs.Words.{is_white_space, may_begin}
use Rattle.lexer.specs.declared.pieces.Class.TheVariants.{Blank, NamePart}
use Rattle.lexer.proofs.Letters.{apart_begins}
use Rattle.lexer.specs.declared.pieces.Class.{Class}
use Rattle.std.proofs.lemmas.Bool.Decides.{nat_tests}

-- no byte, no character
pub chars-empty : (bs : List ℕ) → length bs ≡ 0 → chars bs ≡ []
chars-empty [] e = chars-nil
chars-empty (b ∷ bs) e = absurd (omega arith)

-- a character comes off the front
pub record Step (before after : List ℕ) (c : ℕ) : Type 0 where
  pub characters : chars before ≡ c ∷ chars after
  pub utf8 : IsUtf8 after
  pub shorter : length after < length before

pub step : (before after : List ℕ) (c : ℕ) → IsUtf8 before → before ≡ encode_utf8 c ++ after → Step before after c
step before after c utf8 e =
    let n : length before ≡ length (encode_utf8 c) + length after = ap length e ∙ length-append (encode_utf8 c) after in
    let width = length-encode c in
    let some = (len_utf8_bounds c).0 in
    record {
      characters = chars_past_char before after c utf8 e;
      utf8 = IsUtf8-past_char before after c utf8 e;
      shorter = omega arith;
    }

pub run_on : (p : ℕ → Bool) (cs rest : List ℕ) (c : ℕ) → cs ≡ c ∷ rest → p c ≡ true → after_run p rest ≡ after_run p cs
run_on p cs rest c e h = sym (ap (after_run p) e ∙ cond-true (p c) (after_run p rest) (c ∷ rest) h)

pub run_stop : (p : ℕ → Bool) (cs rest : List ℕ) (c : ℕ) → cs ≡ c ∷ rest → p c ≡ false → cs ≡ after_run p cs
run_stop p cs rest c e h = e ∙ sym (ap (after_run p) e ∙ cond-false (p c) (after_run p rest) (c ∷ rest) h)

pub run_end : (p : ℕ → Bool) (cs : List ℕ) → cs ≡ [] → cs ≡ after_run p cs
run_end p cs e = e ∙ sym (ap (after_run p) e)

-- a byte that is ASCII and passes is passed
pub ascii_on : (p : ℕ → Bool) (text : List ℕ) (at : ℕ) → IsUtf8 text → at < length text → IsCharBoundary text at
    → (nat_lt (get_or text at 0) 128 && p (get_or text at 0)) ≡ true
    → IsCharBoundary text (at + 1) × (after_run p (chars (drop (at + 1) text)) ≡ after_run p (chars (drop at text)))
ascii_on p text at utf8 within boundary passes =
    let byte = get_or text at 0 in
    let parts = and_parts (nat_lt byte 128) (p byte) passes in
    let small : byte < 128 = ltb-true byte 128 parts.0 in
    let next : suc at ≡ at + 1 = omega arith in
    let cut : drop at text ≡ encode_utf8 byte ++ drop (at + 1) text =
    drop-cons text at 0 within ∙ ap (λ k. byte ∷ drop k text) next ∙ ap (λ l. l ++ drop (at + 1) text) (sym (encode_ascii byte small)) in
    let characters = chars_past_char (drop at text) (drop (at + 1) text) byte (IsUtf8-drop text at utf8 boundary) cut in
    (IsCharBoundary-after_ascii text at utf8 within small, run_on p _ _ byte characters parts.1)

-- an ASCII character that is not of the class ends the run
pub stopped_ascii : (class : Class) (rest : List ℕ) → IsUtf8 rest → 0 < length rest → get_or rest 0 0 < 128
    → IsStopped class rest → chars rest ≡ after_run (holds class) (chars rest)
stopped_ascii class [] utf8 some small stops = absurd (omega arith)
stopped_ascii class (byte ∷ bytes) utf8 some small stops =
    let cut : byte ∷ bytes ≡ encode_utf8 byte ++ bytes = ap (λ l. l ++ bytes) (sym (encode_ascii byte small)) in
    let characters = chars_past_char (byte ∷ bytes) bytes byte utf8 cut in
    let ascii : nat_lt byte 128 ≡ true = grind (arith, nat_tests) in
    let fails : holds class byte ≡ false = ap (λ b. b && holds class byte) (sym ascii) ∙ stops in
    run_stop (holds class) _ _ byte characters fails

-- a text whose first byte is ASCII begins with that character
pub ascii_front : (text : List ℕ) → IsUtf8 text → 0 < length text → get_or text 0 0 < 128
    → chars text ≡ get_or text 0 0 ∷ chars (drop 1 text)
ascii_front [] utf8 some small = absurd (omega arith)
ascii_front (byte ∷ bytes) utf8 some small =
    let cut : byte ∷ bytes ≡ encode_utf8 byte ++ bytes = ap (λ l. l ++ bytes) (sym (encode_ascii byte small)) in
    chars_past_char (byte ∷ bytes) bytes byte utf8 cut

-- a text that begins with an ASCII character has that as its first byte
first_byte : (c : ℕ) (cs : List ℕ) (byte : ℕ) (bytes : List ℕ) → encode_utf8_all (c ∷ cs) ≡ byte ∷ bytes → c < 128 → c ≡ byte
first_byte c cs byte bytes e small =
    let parts : c ∷ encode_utf8_all cs ≡ byte ∷ bytes = sym (ap (λ l. l ++ encode_utf8_all cs) (encode_ascii c small)) ∙ e in
    cc

-- an ASCII character at the front fails the test that its byte fails
pub apart_front : (class : Class) (text : List ℕ) (c : ℕ) (cs : List ℕ) → IsUtf8 text → chars text ≡ c ∷ cs → IsStopped class text
    → c < 128 → holds class c ≡ false
apart_front class [] c cs utf8 e stops small = let none : [] ≡ c ∷ cs = sym chars-nil ∙ e in absurd cc
apart_front class (byte ∷ bytes) c cs utf8 e stops small =
    let same : c ≡ byte = first_byte c cs byte bytes (ap encode_utf8_all (sym e) ∙ encodes-chars (byte ∷ bytes) utf8) small in
    let ascii : nat_lt c 128 ≡ true = grind (arith, nat_tests) in
    let here : (nat_lt c 128 && holds class c) ≡ false = subst (λ x. (nat_lt x 128 && holds class x) ≡ false) (sym same) stops in
    ap (λ b. b && holds class c) (sym ascii) ∙ here

-- white space is ASCII
dark_character : (c : ℕ) → (c < 128 → is_white_space c ≡ false) → is_white_space c ≡ false
dark_character c h =
    elim (cases_lt c 128) [
      | inl small ↦ h small
      | inr large ↦ grind (arith, nat_tests)
    ]

dark_front : (text cs : List ℕ) → IsUtf8 text → chars text ≡ cs → IsStopped Blank text → Stops is_white_space cs
dark_front text [] utf8 e stops = tt
dark_front text (c ∷ cs) utf8 e stops = dark_character c (apart_front Blank text c cs utf8 e stops)

pub dark_from : (text : List ℕ) → IsUtf8 text → IsStopped Blank text → Stops is_white_space (chars text)
dark_from text utf8 stops = dark_front text (chars text) utf8 refl stops

pub stops_run : (p : ℕ → Bool) (cs : List ℕ) → Stops p cs → cs ≡ after_run p cs
stops_run p [] stops = refl
stops_run p (c ∷ cs) stops = sym (cond-false (p c) (after_run p cs) (c ∷ cs) stops)

all_off : (a b d e : Bool) → a ≡ false → b ≡ false → d ≡ false → e ≡ false → not (a || b || d || e) ≡ true
all_off a b d e h i j k = grind (arith, nat_tests)

-- a character of the front that begins neither white space nor a name nor an integer nor a comment begins a sign
pub sign_front : (text : List ℕ) (c : ℕ) (cs : List ℕ) → IsUtf8 text → chars text ≡ c ∷ cs → Stops is_white_space (chars text)
    → IsStopped NamePart text → (not (nat_lt c 128) && may_begin c) ≡ false → c ≢ 47 → begins_sign c ≡ true
sign_front text c cs utf8 e dark apart near other =
    let white : is_white_space c ≡ false = subst (Stops is_white_space) e dark in
    let solidus : (c == 47) ≡ false = grind (arith, nat_tests) in
    let both : (is_ascii_digit c ≡ false) × (may_begin c ≡ false) = elim (cases_lt c 128) [
      | inl small ↦ apart_begins c small (apart_front NamePart text c cs utf8 e apart small)
      | inr large ↦
          let beyond : not (nat_lt c 128) ≡ true = grind (arith, nat_tests) in
          let plain : is_ascii_digit c ≡ false = grind (arith, nat_tests) in
          (plain, ap (λ b. b && may_begin c) (sym beyond) ∙ near)
    ] in
    all_off (is_white_space c) (is_ascii_digit c) (may_begin c) (c == 47) white both.0 both.1 solidus

-- a mark in a table
pub marked : (t : Bool) → (cond t 1 0 == 1) ≡ t
marked true = refl
marked false = refl

pub close_found : (starred : Bool) (cs rest : List ℕ) (c : ℕ) → cs ≡ c ∷ rest → starred ≡ true → c ≡ 47
    → after_close starred cs ≡ Some rest
close_found starred cs rest c e h k =
    ap (after_close starred) e
    ∙ (ap (λ s. cond (s && c == 47) (Some rest) (after_close (c == 42) rest)) h
    ∙ ap (λ d. cond (d == 47) (Some rest) (after_close (c == 42) rest)) k)

pub close_on : (starred : Bool) (cs rest : List ℕ) (c : ℕ) → cs ≡ c ∷ rest → (starred && c == 47) ≡ false
    → after_close starred cs ≡ after_close (c == 42) rest
close_on starred cs rest c e h = ap (after_close starred) e ∙ cond-false (starred && c == 47) _ _ h

-- the bytes before a tail
pub record Parted (text rest : List ℕ) : Type 0 where
  pub shorter : length rest ≤ length text
  pub boundary : IsCharBoundary text (length text - length rest)
  pub bytes : text ≡ take (length text - length rest) text ++ rest
  pub text_is : chars text ≡ chars (take (length text - length rest) text) ++ chars rest

pub parted : (text rest : List ℕ) → IsUtf8 text → IsUtf8 rest → IsTail (chars text) (chars rest) → Parted text rest
parted text rest utf8 tail_utf8 (cs, e) =
    let front : List ℕ = encode_utf8_all cs in
    let bytes : text ≡ front ++ rest =
    sym (encodes-chars text utf8) ∙ (ap encode_utf8_all e ∙ (encodes-append cs (chars rest) ∙ ap (λ r. front ++ r) (encodes-chars rest tail_utf8))) in
    let n : length text ≡ length front + length rest = ap length bytes ∙ length-append front rest in
    let mid : length front ≡ length text - length rest = omega arith in
    let boundary : IsCharBoundary text (length text - length rest) =
    subst (IsCharBoundary text) mid (IsCharBoundary-at_seam text front rest bytes tail_utf8) in
    let taken : take (length text - length rest) text ≡ front =
    ap (λ k. take k text) (sym mid) ∙ (ap (take (length front)) bytes ∙ (take-append-le (length front) front rest (omega arith) ∙ take_all (length front) front (omega arith))) in
    let whole : text ≡ take (length text - length rest) text ++ rest = bytes ∙ ap (λ l. l ++ rest) (sym taken) in
    let front_utf8 = IsUtf8-take text (length text - length rest) utf8 boundary in
    record {
      shorter = omega arith;
      boundary = boundary;
      bytes = whole;
      text_is = ap chars whole ∙ chars-append _ rest front_utf8;
    }
