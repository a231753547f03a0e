-- What follows of the tokens of a cut.
use Rattle.lexer.specs.Patterns.{Word, Gap, Token, Between}
use Rattle.std.proofs.Common.{◌≡◌, ◌≢◌, ℕ, ◌+◌, ◌-◌, ◌≤◌, true, List, [], ◌∷◌, ◌++◌, length, take, drop, refl, sym, ap, subst, ◌∙◌, arith, inl, inr, append_assoc, append-nil, length-append}
use Rattle.std.proofs.lemmas.Bool.{and_parts, and_from}
use Rattle.std.proofs.lemmas.List.{take-append-le, drop_at, take_all}
use Rattle.std.proofs.lemmas.List.Elements.{All-from_recursion, All-append, All-cons, All-nil}
use Rattle.std.proofs.lemmas.Str.{encodes-append, chars-encodes, length-le-encodes, encodes-IsAscii, encodes-chars, scalars-chars, IsCharBoundary-at_seam, IsCharBoundary-end}
use Rattle.std.specs.List.{AllByRecursion, All, slice_range, list_all}
use Rattle.std.specs.Char.{is_ascii}
use Rattle.std.specs.Str.{chars, IsUtf8, IsAscii, IsCharBoundary, encode_utf8_all, all_scalars}
use Rattle.std.specs.Str.Parse.{digits_value}
use Rattle.lexer.specs.Terminal.{Terminal, IsTerminated}
use Rattle.lexer.specs.KindRows.{keyword_rows, sign_rows}
use Rattle.lexer.specs.TokenKind.{TokenKind, End}
use Rattle.lexer.specs.Words.{is_name, is_fixed}
use Rattle.lexer.specs.Lexeme.{Lexeme, IsLexeme, FixedWord, Identifier, Literal, IsNumeral}
use Rattle.lexer.specs.Cut.{Cuts, Nothing, IsNextLexeme, IsCut, IsTextRefused, terminal_at, size}
use Rattle.lexer.specs.Listing.{IsInOrder, IsSliceOf, IsSpelled, SpellsToken, IsAtCharacter, IsRefusedAtCharacter}
use Rattle.common.specs.declared.refusal.RefusalAt.{RefusalAt}
use Rattle.lexer.specs.declared.fault.LexRefusalKind.{LexRefusalKind}
use Rattle.lexer.proofs.Fronts.{nonempty}
use Rattle.lexer.proofs.Reading.{digits_ascii}
use Rattle.lexer.proofs.Fixed.{coded}
use Rattle.lexer.proofs.Tables.{found_passes, IsAscii-from_test}

-- the bytes of two lists one after the other
pub size-append : (xs ys : List ℕ) → size (xs ++ ys) ≡ size xs + size ys
size-append xs ys = ap length (encodes-append xs ys) ∙ length-append (encode_utf8_all xs) (encode_utf8_all ys)

parts_size : (text front left : List ℕ) → text ≡ front ++ left → size text ≡ size front + size left
parts_size text front left e = ap size e ∙ size-append front left

pub front_some : (lexeme : Lexeme) (text front left : List ℕ) → IsNextLexeme text lexeme front left → 1 ≤ size front
front_some lexeme text [] left next = absurd (nonempty lexeme [] next.is refl)
front_some lexeme text (c ∷ front) left next = let h = length-le-encodes (c ∷ front) in omega arith

-- a cut ends at the byte that its place says
pub cut_size : (start : ℕ) (text : List ℕ) (ts : List Terminal) (end : ℕ) (rest : List ℕ) → Cuts start text ts end rest
    → start + size text ≡ end + size rest
cut_size start text ts end rest (Nothing _ _) = refl
cut_size start text ts end rest (Token _ _ kind front l us _ _ next cuts) =
    let n = parts_size text front l next.text_is in
    let m = cut_size (start + size front) l us end rest cuts in
    omega arith
cut_size start text ts end rest (Between _ _ front l us _ _ next cuts) =
    let n = parts_size text front l next.text_is in
    let m = cut_size (start + size front) l us end rest cuts in
    omega arith

-- a cut has no more tokens than bytes
pub cut_count : (start : ℕ) (text : List ℕ) (ts : List Terminal) (end : ℕ) (rest : List ℕ) → Cuts start text ts end rest
    → length ts + size rest ≤ size text
cut_count start text ts end rest (Nothing _ _) = omega arith
cut_count start text ts end rest (Token _ _ kind front l us _ _ next cuts) =
    let n = parts_size text front l next.text_is in
    let m = cut_count (start + size front) l us end rest cuts in
    let some = front_some (Word kind) text front l next in
    omega arith
cut_count start text ts end rest (Between _ _ front l us _ _ next cuts) =
    let n = parts_size text front l next.text_is in
    let m = cut_count (start + size front) l us end rest cuts in
    omega arith

-- rows of terminals
earlier : (start later : ℕ) (ts : List Terminal) (end : ℕ) → start ≤ later → IsInOrder later ts end → IsInOrder start ts end
earlier start later [] end e h = omega arith
earlier start later (t ∷ ts) end e (a, b, c) = (omega arith, b, c)

pub order_on : (start : ℕ) (ts : List Terminal) (middle : ℕ) (us : List Terminal) (end : ℕ) → IsInOrder start ts middle
    → IsInOrder middle us end → IsInOrder start (ts ++ us) end
order_on start [] middle us end h k = earlier start middle us end h k
order_on start (t ∷ ts) middle us end (a, b, c) k = (a, b, order_on t.end ts middle us end c k)

pub cut_order : (start : ℕ) (text : List ℕ) (ts : List Terminal) (end : ℕ) (rest : List ℕ) → Cuts start text ts end rest
    → IsInOrder start ts end
cut_order start text ts end rest (Nothing _ _) = omega arith
cut_order start text ts end rest (Token _ _ kind front l us _ _ next cuts) =
    (omega arith, omega arith, cut_order (start + size front) l us end rest cuts)
cut_order start text ts end rest (Between _ _ front l us _ _ next cuts) =
    earlier start (start + size front) ts end (omega arith) (cut_order (start + size front) l ts end rest cuts)

-- the characters of the parts are characters
pub scalars_parts : (xs ys : List ℕ) → all_scalars (xs ++ ys) ≡ true → (all_scalars xs ≡ true) × (all_scalars ys ≡ true)
scalars_parts [] ys e = (refl, e)
scalars_parts (x ∷ xs) ys e =
    let (first, others) = and_parts _ _ e in
    let (front, rest) = scalars_parts xs ys others in
    (and_from _ _ first front, rest)

utf8 : (cs : List ℕ) → all_scalars cs ≡ true → IsUtf8 (encode_utf8_all cs)
utf8 cs scalars = (cs, (scalars, refl))

fixed_ascii : (cs : List ℕ) → is_fixed cs ≡ true → IsAscii cs
fixed_ascii cs fixed =
    let one = coded cs fixed in
    IsAscii-from_test cs (elim one.found [
      | inl found ↦ found_passes (list_all is_ascii) keyword_rows refl cs one.kind found
      | inr found ↦ found_passes (list_all is_ascii) sign_rows refl cs one.kind found
    ])

spelled : (kind : TokenKind) (cs : List ℕ) → IsLexeme (Word kind) cs → all_scalars cs ≡ true → SpellsToken kind (encode_utf8_all cs)
spelled kind cs (FixedWord _ fixed) scalars = encodes-IsAscii cs (fixed_ascii cs fixed)
spelled kind cs (Identifier _ named) scalars = ap is_name (chars-encodes cs scalars) ∙ named
spelled kind cs (Literal _ numeral small) scalars =
    let same = encodes-IsAscii cs (digits_ascii cs numeral.digits) in
    (subst IsNumeral (sym same) numeral, ap (digits_value 10) same, small)

pub cut_spelled : (start : ℕ) (text : List ℕ) (ts : List Terminal) (end : ℕ) (rest : List ℕ) → Cuts start text ts end rest
    → all_scalars text ≡ true → AllByRecursion IsSpelled ts
cut_spelled start text ts end rest (Nothing _ _) scalars = tt
cut_spelled start text ts end rest (Token _ _ kind front l us _ _ next cuts) scalars =
    let (here, later) = scalars_parts front l (subst (λ t. all_scalars t ≡ true) next.text_is scalars) in
    (spelled kind front next.is here, cut_spelled (start + size front) l us end rest cuts later)
cut_spelled start text ts end rest (Between _ _ front l _ _ _ next cuts) scalars =
    let (here, later) = scalars_parts front l (subst (λ t. all_scalars t ≡ true) next.text_is scalars) in
    cut_spelled (start + size front) l ts end rest cuts later

-- no token that is cut off is an end marker
no_marker : (kind : TokenKind) (text front left : List ℕ) → IsNextLexeme text (Word kind) front left → all_scalars front ≡ true
    → kind ≢ End
no_marker kind text front left next scalars e =
    let none : encode_utf8_all front ≡ [] = subst (λ k. SpellsToken k (encode_utf8_all front)) e (spelled kind front next.is scalars) in
    let n = ap length none in
    let some = front_some (Word kind) text front left next in
    omega arith

pub cut_terminated : (start : ℕ) (text : List ℕ) (ts : List Terminal) (end : ℕ) (rest : List ℕ) (last : Terminal)
    → Cuts start text ts end rest → all_scalars text ≡ true → last.kind ≡ End → IsTerminated (ts ++ last ∷ [])
cut_terminated start text ts end rest last (Nothing _ _) scalars e = inl (e, refl)
cut_terminated start text ts end rest last (Token _ _ kind front l us _ _ next cuts) scalars e =
    let (here, later) = scalars_parts front l (subst (λ t. all_scalars t ≡ true) next.text_is scalars) in
    inr (no_marker kind text front l next here, cut_terminated (start + size front) l us end rest last cuts later e)
cut_terminated start text ts end rest last (Between _ _ front l _ _ _ next cuts) scalars e =
    let (here, later) = scalars_parts front l (subst (λ t. all_scalars t ≡ true) next.text_is scalars) in
    cut_terminated (start + size front) l ts end rest last cuts later e

-- the middle of three lists is the slice between its ends
slice_between : (source before middle after : List ℕ) (start : ℕ) → source ≡ before ++ (middle ++ after)
    → length before ≡ start → middle ≡ slice_range source start (start + length middle)
slice_between source before middle after start e n =
    let dropped : drop start source ≡ middle ++ after = ap (drop start) e ∙ drop_at before (middle ++ after) start n in
    let width : length middle ≡ start + length middle - start = omega arith in
    let taken : take (length middle) (middle ++ after) ≡ middle = take-append-le (length middle) middle after (omega arith) ∙ take_all (length middle) middle (omega arith) in
    sym (ap (λ k. take k (drop start source)) (sym width) ∙ (ap (take (length middle)) dropped ∙ taken))

pub cut_slices : (source before : List ℕ) (start : ℕ) (text : List ℕ) (ts : List Terminal) (end : ℕ) (rest : List ℕ)
    → Cuts start text ts end rest → source ≡ before ++ encode_utf8_all text → length before ≡ start
    → AllByRecursion (IsSliceOf source) ts
cut_slices source before start text ts end rest (Nothing _ _) e n = tt
cut_slices source before start text ts end rest (Token _ _ kind front l us _ _ next cuts) e n =
    let bytes = encode_utf8_all front in
    let parts : encode_utf8_all text ≡ bytes ++ encode_utf8_all l = ap encode_utf8_all next.text_is ∙ encodes-append front l in
    let whole : source ≡ before ++ (bytes ++ encode_utf8_all l) = e ∙ ap (λ t. before ++ t) parts in
    let longer : length (before ++ bytes) ≡ start + size front = length-append before bytes ∙ ap (λ k. k + length bytes) n in (
      slice_between source before bytes (encode_utf8_all l) start whole n,
      cut_slices source (before ++ bytes) (start + size front) l us end rest cuts (whole ∙ sym (append_assoc before bytes (encode_utf8_all l))) longer,
    )
cut_slices source before start text ts end rest (Between _ _ front l _ _ _ next cuts) e n =
    let bytes = encode_utf8_all front in
    let parts : encode_utf8_all text ≡ bytes ++ encode_utf8_all l = ap encode_utf8_all next.text_is ∙ encodes-append front l in
    let whole : source ≡ before ++ (bytes ++ encode_utf8_all l) = e ∙ ap (λ t. before ++ t) parts in
    let longer : length (before ++ bytes) ≡ start + size front = length-append before bytes ∙ ap (λ k. k + length bytes) n in
    cut_slices source (before ++ bytes) (start + size front) l ts end rest cuts (whole ∙ sym (append_assoc before bytes (encode_utf8_all l))) longer

-- the source up to a cut's end, and what follows
pub record Parted (source : List ℕ) (end : ℕ) (rest : List ℕ) : Type 0 where
  pub before : List ℕ
  pub bytes : source ≡ before ++ encode_utf8_all rest
  pub place : length before ≡ end
  pub characters : all_scalars rest ≡ true

-- what follows a front of what follows
next_part : (source : List ℕ) (lexeme : Lexeme) (start : ℕ) (text front left : List ℕ) → Parted source start text
    → IsNextLexeme text lexeme front left → Parted source (start + size front) left
next_part source lexeme start text front left parted next =
    let bytes = encode_utf8_all front in
    let parts : encode_utf8_all text ≡ bytes ++ encode_utf8_all left = ap encode_utf8_all next.text_is ∙ encodes-append front left in
    record {
      before = parted.before ++ bytes;
      bytes = parted.bytes ∙ (ap (λ t. parted.before ++ t) parts ∙ sym (append_assoc parted.before bytes (encode_utf8_all left)));
      place = length-append parted.before bytes ∙ ap (λ k. k + length bytes) parted.place;
      characters = (scalars_parts front left (subst (λ t. all_scalars t ≡ true) next.text_is parted.characters)).1;
    }

boundary : (source : List ℕ) (end : ℕ) (rest : List ℕ) → Parted source end rest → IsCharBoundary source end
boundary source end rest parted =
    subst (IsCharBoundary source) parted.place
    (IsCharBoundary-at_seam source parted.before (encode_utf8_all rest) parted.bytes (utf8 rest parted.characters))

pub cut_parts : (source : List ℕ) (start : ℕ) (text : List ℕ) (ts : List Terminal) (end : ℕ) (rest : List ℕ)
    → Cuts start text ts end rest → Parted source start text → Parted source end rest
cut_parts source start text ts end rest (Nothing _ _) parted = parted
cut_parts source start text ts end rest (Token _ _ kind front l us _ _ next cuts) parted =
    cut_parts source (start + size front) l us end rest cuts (next_part source (Word kind) start text front l parted next)
cut_parts source start text ts end rest (Between _ _ front l _ _ _ next cuts) parted =
    cut_parts source (start + size front) l ts end rest cuts (next_part source Gap start text front l parted next)

pub cut_characters : (source : List ℕ) (start : ℕ) (text : List ℕ) (ts : List Terminal) (end : ℕ) (rest : List ℕ)
    → Cuts start text ts end rest → Parted source start text → AllByRecursion (IsAtCharacter source) ts
cut_characters source start text ts end rest (Nothing _ _) parted = tt
cut_characters source start text ts end rest (Token _ _ kind front l us _ _ next cuts) parted = (
  boundary source start text parted,
  cut_characters source (start + size front) l us end rest cuts (next_part source (Word kind) start text front l parted next),
)
cut_characters source start text ts end rest (Between _ _ front l _ _ _ next cuts) parted =
    cut_characters source (start + size front) l ts end rest cuts (next_part source Gap start text front l parted next)

at_start : (text : List ℕ) → IsUtf8 text → Parted text 0 (chars text)
at_start text ok = record {
  before = [];
  bytes = sym (encodes-chars text ok);
  place = refl;
  characters = scalars-chars text ok;
}

-- a refusal stands where a character begins
pub refused_at : (text : List ℕ) (fault : RefusalAt LexRefusalKind) → IsUtf8 text → IsTextRefused text fault → IsRefusedAtCharacter text fault
refused_at text fault ok h =
    boundary text fault.at h.rest (cut_parts text 0 (chars text) h.words fault.at h.rest h.cuts (at_start text ok))

-- all that holds of the tokens of a text
pub record Listed (text : List ℕ) (tokens : List Terminal) : Type 0 where
  pub terminated : IsTerminated tokens
  pub in_order : IsInOrder 0 tokens (length text)
  pub slices : All (IsSliceOf text) tokens
  pub spelled : All IsSpelled tokens
  pub count : length tokens ≤ length text + 1
  pub at_characters : All (IsAtCharacter text) tokens

listed_at : (text : List ℕ) (words : List Terminal) → IsUtf8 text → Cuts 0 (chars text) words (length text) []
    → Listed text (words ++ terminal_at (length text) End [] ∷ [])
listed_at text words ok cuts =
    let last : Terminal = terminal_at (length text) End [] in
    let scalars : all_scalars (chars text) ≡ true = scalars-chars text ok in
    let bytes : encode_utf8_all (chars text) ≡ text = encodes-chars text ok in
    let n = cut_count 0 (chars text) words (length text) [] cuts in
    let width = ap length bytes in
    let longer = length-append words (last ∷ []) in
    record {
      terminated = cut_terminated 0 (chars text) words (length text) [] last cuts scalars refl;
      in_order = order_on 0 words (length text) (last ∷ []) (length text) (cut_order 0 (chars text) words (length text) [] cuts) (omega arith, omega arith, omega arith);
      slices = All-append (IsSliceOf text) words (last ∷ [])
          (All-from_recursion (IsSliceOf text) words (cut_slices text [] 0 (chars text) words (length text) [] cuts (sym bytes) refl))
          (All-cons (IsSliceOf text) last [] (slice_between text text [] [] (length text) (sym (append-nil text)) refl) (All-nil (IsSliceOf text)));
      spelled = All-append IsSpelled words (last ∷ [])
          (All-from_recursion IsSpelled words (cut_spelled 0 (chars text) words (length text) [] cuts scalars))
          (All-cons IsSpelled last [] refl (All-nil IsSpelled));
      count = omega arith;
      at_characters = All-append (IsAtCharacter text) words (last ∷ [])
          (All-from_recursion (IsAtCharacter text) words (cut_characters text 0 (chars text) words (length text) [] cuts (at_start text ok)))
          (All-cons (IsAtCharacter text) last [] (IsCharBoundary-end text) (All-nil (IsAtCharacter text)));
    }

pub listed : (text : List ℕ) (tokens : List Terminal) → IsUtf8 text → IsCut text tokens → Listed text tokens
listed text tokens ok cut = subst (Listed text) (sym cut.ended) (listed_at text cut.words ok cut.cuts)
