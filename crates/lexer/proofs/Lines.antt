-- Lines and columns, byte by byte.
use Rattle.std.proofs.Common.{◌≡◌, ℕ, ◌+◌, ◌<◌, true, false, not, cond, List, [], ◌∷◌, length, get_or, take, ap, ◌∙◌, arith}
use Rattle.std.specs.List.{count_by, take_while}
use Rattle.std.specs.Prelude.{reverse}
use Rattle.std.proofs.lemmas.List.{reverse-append, take_more}
use Rattle.std.proofs.lemmas.List.Sums.{sum_by-cons, take_while-cons}
use Rattle.lexer.specs.Position.{begins_character, is_line_feed, bytes_of_line, column_of}

module _ (text : List ℕ) (i d : ℕ) (within : i < length text) where
  abbrev byte : ℕ
  byte = get_or text i d

  line-next : bytes_of_line text (i + 1) ≡ cond (not (is_line_feed byte)) (byte ∷ bytes_of_line text i) []
  line-next =
      ap (λ bytes. take_while (λ b. not (is_line_feed b)) (reverse bytes)) (take_more text i d within)
      ∙ ap (take_while (λ b. not (is_line_feed b))) (reverse-append (take i text) (byte ∷ []))
      ∙ take_while-cons (λ b. not (is_line_feed b)) byte (reverse (take i text))

  goes_on : is_line_feed byte ≡ false → column_of text (i + 1) ≡ cond (begins_character byte) 1 0 + count_by begins_character (bytes_of_line text i) + 1
  goes_on other =
      ap (λ bytes. count_by begins_character bytes + 1) (line-next ∙ ap (λ b. cond (not b) (byte ∷ bytes_of_line text i) []) other)
      ∙ ap (λ n. n + 1) (sum_by-cons (λ b. cond (begins_character b) 1 0) byte (bytes_of_line text i))

  pub column_of-line_feed : is_line_feed byte ≡ true → column_of text (i + 1) ≡ 1
  column_of-line_feed feed =
      ap (λ bytes. count_by begins_character bytes + 1) (line-next ∙ ap (λ b. cond (not b) (byte ∷ bytes_of_line text i) []) feed)

  pub column_of-begin : is_line_feed byte ≡ false → begins_character byte ≡ true → column_of text (i + 1) ≡ column_of text i + 1
  column_of-begin other begins =
      let e : cond {A = ℕ} (begins_character byte) 1 0 ≡ 1 = ap (λ b. cond {A = ℕ} b 1 0) begins in
      let f : column_of text (i + 1) ≡ cond (begins_character byte) 1 0 + count_by begins_character (bytes_of_line text i) + 1 = goes_on other in
      omega (arith, e, f)

  pub column_of-within : is_line_feed byte ≡ false → begins_character byte ≡ false → column_of text (i + 1) ≡ column_of text i
  column_of-within other begins =
      let e : cond {A = ℕ} (begins_character byte) 1 0 ≡ 0 = ap (λ b. cond {A = ℕ} b 1 0) begins in
      let f : column_of text (i + 1) ≡ cond (begins_character byte) 1 0 + count_by begins_character (bytes_of_line text i) + 1 = goes_on other in
      omega (arith, e, f)
