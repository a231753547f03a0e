-- Places, byte by byte.
use Rattle.std.proofs.Common.{◌≡◌, ℕ, ◌+◌, ◌<◌, Bool, true, false, cond, List, length, get_or, refl, ap, sym, ◌∙◌}
use Rattle.std.proofs.lemmas.List.Sums.{count_by_more_yes, count_by_more_no}
use Rattle.lexer.specs.declared.token.Place.{Place}
use Rattle.lexer.specs.Position.{begins_character, column_of, is_line_feed, line_of, place_at}
use Rattle.lexer.proofs.Lines.{column_of-line_feed, column_of-begin, column_of-within}
use Rattle.lexer.specs.NextPlace.{next_place}

abbrev place : (line column : ℕ) → Place
place line column = record { line = line; column = column }

module _ (text : List ℕ) (i d : ℕ) (within : i < length text) where
  abbrev byte : ℕ
  byte = get_or text i d

  at_feed : is_line_feed byte ≡ true → next_place (place_at text i) byte ≡ place_at text (i + 1)
  at_feed feed =
      ap (λ b. cond b (place (line_of text i + 1) 1) (cond (begins_character byte) (place (line_of text i) (column_of text i + 1)) (place_at text i))) feed
      ∙ ap (λ n. place (n + 1) 1) (sym (count_by_more_yes is_line_feed text i d within feed))
      ∙ ap (place (line_of text (i + 1))) (sym (column_of-line_feed text i d within feed))

  at_other : is_line_feed byte ≡ false
      → next_place (place_at text i) byte ≡ cond (begins_character byte) (place (line_of text i) (column_of text i + 1)) (place_at text i)
  at_other other =
      ap (λ b. cond b (place (line_of text i + 1) 1) (cond (begins_character byte) (place (line_of text i) (column_of text i + 1)) (place_at text i))) other

  same_line : is_line_feed byte ≡ false → line_of text i ≡ line_of text (i + 1)
  same_line other = ap (λ n. n + 1) (sym (count_by_more_no is_line_feed text i d within other))

  at_begin : is_line_feed byte ≡ false → begins_character byte ≡ true → next_place (place_at text i) byte ≡ place_at text (i + 1)
  at_begin other begins =
      at_other other
      ∙ ap (λ b. cond b (place (line_of text i) (column_of text i + 1)) (place_at text i)) begins
      ∙ ap (λ n. place n (column_of text i + 1)) (same_line other)
      ∙ ap (place (line_of text (i + 1))) (sym (column_of-begin text i d within other begins))

  at_within : is_line_feed byte ≡ false → begins_character byte ≡ false → next_place (place_at text i) byte ≡ place_at text (i + 1)
  at_within other inner =
      at_other other
      ∙ ap (λ b. cond b (place (line_of text i) (column_of text i + 1)) (place_at text i)) inner
      ∙ ap (λ n. place n (column_of text i)) (same_line other)
      ∙ ap (place (line_of text (i + 1))) (sym (column_of-within text i d within other inner))

  by_begin : (begins : Bool) → is_line_feed byte ≡ false → begins_character byte ≡ begins → next_place (place_at text i) byte ≡ place_at text (i + 1)
  by_begin true other is = at_begin other is
  by_begin false other is = at_within other is

  by_feed : (feed : Bool) → is_line_feed byte ≡ feed → next_place (place_at text i) byte ≡ place_at text (i + 1)
  by_feed true is = at_feed is
  by_feed false is = by_begin (begins_character byte) is refl

  -- the place after a byte of a text
  pub next-place_at : next_place (place_at text i) byte ≡ place_at text (i + 1)
  next-place_at = by_feed (is_line_feed byte) refl
