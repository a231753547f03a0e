-- The line and the column of a byte of a text, which may be no UTF-8, and whether or not a character begins there.
-- Source: our own; a line ends with a line feed, U+000A, and a column is one character, which begins in UTF-8 with each byte but those
-- from 128 to 191.
use Rattle.std.specs.Prelude.{ℕ, ◌+◌, ◌==◌, ◌||◌, Bool, not, nat_lt, nat_le, List, count_by, take, reverse}
use Rattle.std.specs.List.{take_while}
use Rattle.lexer.specs.declared.token.Place.{Place}

-- a character begins with this byte
abbrev pub begins_character : ℕ → Bool
begins_character byte = nat_lt byte 128 || nat_le 192 byte

abbrev pub is_line_feed : ℕ → Bool
is_line_feed byte = byte == 10

-- the bytes between a byte and the last line feed before it, the nearest first
abbrev pub bytes_of_line : List ℕ → (at : ℕ) → List ℕ
bytes_of_line text at = take_while (λ byte. not (is_line_feed byte)) (reverse (take at text))

-- the place of a byte of a text: its line is one more than the line feeds before it, and its column one more than the characters that
-- begin before it in its line
abbrev pub place_at : List ℕ → (at : ℕ) → Place
place_at text at =
    record { line = count_by is_line_feed (take at text) + 1; column = count_by begins_character (bytes_of_line text at) + 1 }

-- ---- parts of the rules, by which contracts and proofs speak of them

abbrev pub line_of : List ℕ → (at : ℕ) → ℕ
line_of text at = (place_at text at).line

abbrev pub column_of : List ℕ → (at : ℕ) → ℕ
column_of text at = (place_at text at).column
